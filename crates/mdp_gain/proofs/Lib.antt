mod Allowing
mod Answering
mod BestInner
mod Columns
mod Examples
mod Flagging
mod GainLaws
mod Given
mod Improving
mod Listed
mod NextPolicy
mod Rounds
mod Solving
mod Starting
mod Told
mod OnlyColumns
mod OnlySums
pub mod OnlyState
mod OnlyPath
mod OnlyMakes
mod OnlyAlone
mod Alls
pub mod RenumberedRows
pub mod RenumberedSteps
pub mod RenumberedElimination
pub mod RenumberedEvaluation
pub mod RenumberedSolution
pub mod RenumberedSystem
pub mod RenumberedChains
pub mod RenumberedClasses
pub mod RenumberedPolicies
pub mod Spread
pub mod RenumberedResults
pub mod RenumberedChoices
pub mod RenumberedSums
pub mod RenumberedValues
pub mod RenumberedComparisons
mod PartExamples
pub mod MemberPlaces
pub mod AloneStates
pub mod AloneRows
pub mod AloneEnds
pub mod AloneComponent
pub mod AloneModel
pub mod RenumberedPath
pub mod QueryAlone
mod Places
mod Sorting
mod Handing
mod Ending
mod OneSolved

pub mod Assembled
pub mod Calls
pub mod ClosedRows
pub mod CutModels
pub mod Either
mod Examples
pub mod Flat
pub mod Queries
pub mod NegativeRewards
pub mod ReplayStates
pub mod SoundCalls
pub mod FoundNames
pub mod ShortSums

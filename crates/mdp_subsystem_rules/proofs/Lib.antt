pub mod Added
pub mod Adding
pub mod Sizes
pub mod Kept
pub mod Floors
pub mod Picks
pub mod Extremal
pub mod Gather
pub mod Flows
pub mod Policies
pub mod Bounded
pub mod Made
pub mod Parts
pub mod FlowRules
pub mod FloorRules
pub mod Counted
pub mod FlowTelling
pub mod FloorTelling
pub mod Saying
pub mod Fewer
pub mod Listed
pub mod Untils
mod Examples
mod ExamplesChecks
mod ExamplesUntil

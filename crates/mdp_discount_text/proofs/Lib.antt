pub mod Factors
pub mod ClaimLines
pub mod Whole
pub mod FourLines
pub mod Outcomes
mod Examples
pub mod Columns
pub mod Entries
pub mod Heads
pub mod BoundsOutcomes
mod BoundsExamples

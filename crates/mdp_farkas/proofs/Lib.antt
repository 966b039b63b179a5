pub mod Objections
pub mod Holds
pub mod Comparing
pub mod Asking
pub mod Summing
pub mod Inequalities
pub mod UpperRules
pub mod Entries
pub mod ReachRules
pub mod Tests
pub mod RewardRules
pub mod Spreading
pub mod MeanRules
pub mod Telling
mod ReachTelling
mod RewardTelling
mod MeanTelling
mod Saying
mod Places
mod Named
mod Firsts
mod Examples
mod ExamplesReward
mod ExamplesMean

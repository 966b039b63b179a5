pub mod Units
pub mod Rows
pub mod Hits
pub mod Untils
pub mod Until
pub mod Earnings
pub mod Keeping
pub mod Above
pub mod Close
pub mod Ranks
pub mod Reach
pub mod Subsystem
pub mod Steps
pub mod Mean
pub mod Arrives
pub mod Misses
pub mod Values
pub mod Pays
pub mod Enters
pub mod Reward
pub mod Trapped
pub mod Unique
pub mod Summed
pub mod Small
mod Examples
mod ExamplesBounds
mod ExamplesRules
mod ExamplesBetween
mod ExamplesUntil
mod ExamplesSigns

pub mod Deviations
pub mod Values
pub mod Solving
pub mod Choosing
pub mod Facts
pub mod Ways
pub mod AnEnd
pub mod Reading
mod Examples
pub mod Chains
pub mod Handed
pub mod Trees
pub mod Owned
pub mod Stepped
pub mod Rewards
mod ChainExamples

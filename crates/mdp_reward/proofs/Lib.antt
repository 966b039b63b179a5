pub mod Nodes
pub mod Rows
pub mod Policies
pub mod Values
pub mod MaxFacts
pub mod MinFacts
pub mod Starts
pub mod Kept
pub mod Certificate
pub mod Shared
pub mod MaxRules
pub mod MinRules
pub mod Rounds
pub mod OneEnd
pub mod SomeRounds
pub mod Answering
pub mod AnEnd
mod Examples

pub mod Nodes
pub mod Policies
pub mod Starts
pub mod Chances
pub mod Kept
pub mod Rows
pub mod MaxRules
pub mod MinRules
pub mod OneEnd
pub mod Answering
pub mod AnEnd
mod Examples

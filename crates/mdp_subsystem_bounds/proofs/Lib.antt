pub mod Rules
pub mod Accepting
pub mod Columns
pub mod Bodies
pub mod Heads
pub mod Outcomes
mod Examples
mod TextExamples

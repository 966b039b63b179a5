pub mod Runs
pub mod Growth
pub mod Steps
pub mod Claims
pub mod Numbered
pub mod Columns
pub mod Sections
pub mod Bodies
pub mod WordByWord
pub mod OneByOne
pub mod Kept
pub mod Places
pub mod Parts
pub mod FirstBroken
mod Examples
pub mod RunLengths
pub mod Written
pub mod StateWords
pub mod Heads
pub mod BoundsBodies
pub mod Outcomes
mod BoundsExamples

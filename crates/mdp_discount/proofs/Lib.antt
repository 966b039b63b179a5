pub mod ScaledRows
pub mod Nodes
pub mod MadeRows
pub mod Products
pub mod Solving
pub mod Ending
pub mod OneEnd
pub mod AnEnd
pub mod Reading
mod Examples

pub mod Shown
pub mod Steps
pub mod Kept
pub mod Code
pub mod Asked

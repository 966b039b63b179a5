pub mod Outermost
pub mod Reached
pub mod Sides
pub mod Refusals
pub mod Answered

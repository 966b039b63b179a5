pub mod Due
pub mod Shown
pub mod Run
pub mod Decided
pub mod InRange

pub mod Rows
pub mod Modelled
pub mod Spelled
pub mod Written
pub mod Short
pub mod Examples

pub mod Errors
pub mod Term

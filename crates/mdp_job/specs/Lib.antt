pub mod Job
pub mod Words
pub mod Refusal
pub mod Errors
pub mod Text
pub mod Status
pub mod WideLines

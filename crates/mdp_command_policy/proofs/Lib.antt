pub mod Ranks
pub mod Due
pub mod Printing
pub mod ChainDue
pub mod ChainPrinting
mod Examples
mod ChainExamples

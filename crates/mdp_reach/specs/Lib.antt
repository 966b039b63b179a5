pub mod Problem
pub mod Query
pub mod Round
pub mod Laws

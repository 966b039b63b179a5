pub mod Problem
pub mod Query
pub mod Laws

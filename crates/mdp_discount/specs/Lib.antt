pub mod Problem
pub mod ScaledView
pub mod Query
pub mod Code
pub mod Laws

pub mod Outermost
pub mod Nothing
pub mod Best
pub mod Zeros
pub mod Parts
pub mod Greatest
pub mod Least
pub mod TrivialBounds
pub mod Means
pub mod Sizes
pub mod Accepted
pub mod Nearness
pub mod DiscountExact
mod Examples

pub mod Directions
pub mod Steps
pub mod Discs
pub mod Discount
pub mod Greatest
pub mod Magnitudes
pub mod DiscountRules
pub mod Telling
pub mod Saying
pub mod Names
pub mod Accepting
pub mod OneValue
mod Examples
pub mod BoundsGreatest
pub mod BoundsValues
pub mod Between
pub mod Exact
pub mod BoundsRules
pub mod Trivial
pub mod BoundsTelling
pub mod BoundsSaying
pub mod BoundsAccepting
mod BoundsExamples

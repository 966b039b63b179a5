pub mod Shapes
pub mod Ways
pub mod Accepting
pub mod BoundsShapes
pub mod BoundsAccepting
pub mod Starting
pub mod InitialNo
pub mod BoundsStarting
mod Examples
mod BoundsExamples

pub mod Turns
pub mod Directions
pub mod Claims
pub mod Objectives
pub mod Halves
pub mod Choosing
pub mod Backward
pub mod Exact
pub mod Answering
pub mod Limits
mod Examples
mod ExamplesTotals
pub mod Rounding
pub mod Past
pub mod Making
pub mod Totals
pub mod Units
pub mod Covering
pub mod Between
pub mod More
pub mod Fractions
pub mod Ready
pub mod Loops
pub mod ShortSums
pub mod Probabilities
pub mod ExactSums
pub mod Both
pub mod Gap
pub mod Finite
pub mod StepsLemmas
mod BoundsExamples
mod CurveExamples
pub mod Fineness
pub mod Curves
pub mod Room

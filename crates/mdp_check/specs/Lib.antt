pub mod Check
pub mod Initial
pub mod Says
pub mod Laws
pub mod BoundsInitial
pub mod BoundsSays
pub mod Bounds
pub mod BoundsLaws

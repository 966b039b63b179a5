pub mod Held
pub mod DiscountHeld
pub mod Extent
pub mod Values
pub mod Near
pub mod Gap
pub mod Wide
pub mod Tried

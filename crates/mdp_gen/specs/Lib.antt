pub mod Draws
pub mod Layered
pub mod Text
pub mod Pieces
pub mod Laws

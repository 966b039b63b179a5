mod Examples
pub mod Pieces

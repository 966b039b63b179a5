pub mod Pieces
pub mod Cuts
pub mod Joined
pub mod Feeds
pub mod Behind
pub mod Fronts
pub mod States
pub mod HeadLines
pub mod Exact
pub mod InitialState
pub mod Lengths
mod Examples

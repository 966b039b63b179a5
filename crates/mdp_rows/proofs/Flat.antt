-- What flat vectors hold: rows, choices, labels and models.
pub mod Choices
pub mod Growth
pub mod Kept
pub mod Labels
pub mod LabelsGrown
pub mod Models
pub mod Names
pub mod Pieces
pub mod Rows
pub mod RowsGrown
pub mod StateLabels

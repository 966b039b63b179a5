-- The text of a model, and that it reads as that model.
pub mod Appending
pub mod Brackets
pub mod Bytes
pub mod Choices
pub mod Header
pub mod Labels
pub mod LineByLine
pub mod Lines
pub mod ModelLines
pub mod Models
pub mod Names
pub mod Numbers
pub mod ReadsBack
pub mod States
pub mod TextsLeft

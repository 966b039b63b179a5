-- Laws of reading.
pub mod BlankEnds
pub mod ByContents
pub mod DraftLabels
pub mod FirstRefusal
pub mod HeaderEnds
pub mod LabelOrder
pub mod LineNumbers
pub mod ModelsKept
pub mod Renumbered

-- Worked files and texts.
pub mod Files
pub mod LawsOnTexts
pub mod SmallText
pub mod TwoChoicesText

-- A text in pieces, and the bytes of a source.
pub mod Cutting
pub mod FeedSteps
pub mod SourceBytes
pub mod StandGrows

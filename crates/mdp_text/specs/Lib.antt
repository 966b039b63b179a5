pub mod Lines
pub mod Words
pub mod Heads
pub mod Kinds
pub mod Spelling
pub mod Answer
pub mod Parts

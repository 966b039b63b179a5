pub mod Faults
pub mod Bytes
pub mod Plan
pub mod Kinds

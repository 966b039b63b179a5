mod Examples
pub mod OnWay
pub mod TextLength
pub mod Printing
pub mod Solved
pub mod Drilled
pub mod DrillExamples
pub mod WitnessFitting
pub mod WitnessFew
pub mod WitnessLength
pub mod WitnessAccepting
pub mod WitnessPrinting
pub mod WitnessDues
mod WitnessExamples
mod DiscountExamples
pub mod DiscountLength
pub mod DiscountPrinting
pub mod DiscountSolved

pub mod Fitting
pub mod Ranges
pub mod Summing
pub mod NodesFound
pub mod ExitsFound
pub mod QuotientFound
pub mod Selected
pub mod LiftedFound
mod Examples
mod TowardTargets
pub mod StepsNodes
pub mod OuterNodes
pub mod Sizes
pub mod InModel
pub mod ForJoin
pub mod Chains
pub mod StepsBest
pub mod OuterBest
pub mod Ending
pub mod Queries
pub mod OuterOfAll
pub mod StepsOfAll
mod Leaving
mod ExitsExamples

-- What lines spell, and what the reader keeps from line to line.
pub mod Answered
pub mod Contents
pub mod CountsAtEnd
pub mod DraftCalls
pub mod HeaderKeeps
pub mod LabelNames
pub mod LabelsFrom
pub mod LabelsOneByOne
pub mod LineKinds
pub mod Listing
pub mod RewardsFrom

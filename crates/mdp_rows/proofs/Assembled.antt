-- What the vectors of an `Assembly` hold, and what each step of it makes of them.
pub mod Closing
pub mod Drafts
pub mod Entries
pub mod GivenRows
pub mod InOrder
pub mod Labels
pub mod Outcomes
pub mod Places
pub mod Stages
pub mod Sums
pub mod Targets
pub mod Refusals
pub mod New
pub mod Finished

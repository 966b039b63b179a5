-- What is asked of a model: its predecessors, the rows of a policy, its initial state.
pub mod Policies
pub mod Preds
pub mod Tally

mod Chains
mod PredCounts

use Rattle.mdp_horizon.proofs.ExactSums.{sum_lies_beyond, sum_is_within}
use Rattle.mdp_horizon.proofs.bounds_laws.rounding_law.Goals as goal

pub returns : goal.returns
returns c = record { beyond = sum_lies_beyond; within = sum_is_within }

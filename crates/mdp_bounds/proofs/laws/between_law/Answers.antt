use Rattle.mdp_bounds.proofs.Ordered.{reach_lies_between, reward_lies_between, mean_lies_between}
use Rattle.mdp_bounds.proofs.laws.between_law.Goals as goal

pub returns-clause-reach : goal.returns-clause-reach
returns-clause-reach c = reach_lies_between

pub returns-clause-reward : goal.returns-clause-reward
returns-clause-reward c = reward_lies_between

pub returns-clause-mean : goal.returns-clause-mean
returns-clause-mean c = mean_lies_between

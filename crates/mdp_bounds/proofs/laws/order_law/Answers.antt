use Rattle.mdp_bounds.proofs.Ordered.{reach_is_ordered, reward_is_ordered, mean_is_ordered}
use Rattle.mdp_bounds.proofs.laws.order_law.Goals as goal

pub returns-clause-reach : goal.returns-clause-reach
returns-clause-reach c = reach_is_ordered

pub returns-clause-reward : goal.returns-clause-reward
returns-clause-reward c = reward_is_ordered

pub returns-clause-mean : goal.returns-clause-mean
returns-clause-mean c = mean_is_ordered

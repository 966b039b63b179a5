use Rattle.mdp_bounds.proofs.Ordered.{same_reach_is_exact, same_reward_is_exact, same_mean_is_exact}
use Rattle.mdp_bounds.proofs.laws.exact_law.Goals as goal

pub returns-clause-reach : goal.returns-clause-reach
returns-clause-reach c = same_reach_is_exact

pub returns-clause-reward : goal.returns-clause-reward
returns-clause-reward c = same_reward_is_exact

pub returns-clause-mean : goal.returns-clause-mean
returns-clause-mean c = same_mean_is_exact

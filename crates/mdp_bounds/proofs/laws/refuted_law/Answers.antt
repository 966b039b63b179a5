use Rattle.mdp_bounds.proofs.{ReachTelling.{reach_refuted}, RewardTelling.{reward_refuted}, MeanTelling.{mean_refuted}}
use Rattle.mdp_bounds.proofs.laws.refuted_law.Goals as goal

pub returns-clause-reach : goal.returns-clause-reach
returns-clause-reach c = reach_refuted

pub returns-clause-reward : goal.returns-clause-reward
returns-clause-reward c = reward_refuted

pub returns-clause-mean : goal.returns-clause-mean
returns-clause-mean c = mean_refuted

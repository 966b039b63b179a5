use Rattle.mdp_bounds.proofs.Saying.{reach_says, reward_says, mean_says}
use Rattle.mdp_bounds.proofs.laws.says_law.Goals as goal

pub returns-clause-reach : goal.returns-clause-reach
returns-clause-reach c = λ dir m goals lower upper policy ranks rules side rule state choice. reach_says m goals lower upper policy ranks dir rules side rule state choice

pub returns-clause-reward : goal.returns-clause-reward
returns-clause-reward c = λ dir m r goals lower upper policy ranks nonneg rules side rule state choice. reward_says m r goals lower upper policy ranks nonneg dir rules side rule state choice

pub returns-clause-mean : goal.returns-clause-mean
returns-clause-mean c = λ dir m r lower upper a b spread policy rules rule state choice. mean_says m r lower upper a b spread policy dir rules rule state choice

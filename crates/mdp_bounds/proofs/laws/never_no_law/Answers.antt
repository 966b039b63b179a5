use Rattle.mdp_bounds.proofs.{ReachRules.{reach_bounds_never_no}, RewardRules.{reward_bounds_never_no}, MeanRules.{mean_bounds_never_no}}
use Rattle.mdp_bounds.proofs.laws.never_no_law.Goals as goal

pub returns-clause-reach : goal.returns-clause-reach
returns-clause-reach c = λ dir m goals lower upper policy ranks fault known rules. reach_bounds_never_no m known goals lower upper policy ranks dir rules fault

pub returns-clause-reward : goal.returns-clause-reward
returns-clause-reward c = λ dir m r goals lower upper policy ranks fault known nonneg rules. reward_bounds_never_no m known r goals lower upper policy ranks nonneg dir rules fault

pub returns-clause-mean : goal.returns-clause-mean
returns-clause-mean c = λ dir m r lower upper a b spread policy fault known rules. mean_bounds_never_no m known r lower upper a b spread policy dir rules fault

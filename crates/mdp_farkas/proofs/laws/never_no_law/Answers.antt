use Rattle.mdp_farkas.proofs.{Named.{named_is_false}, UpperRules.{upper_never_no}, ReachRules.{reach_never_no}, RewardRules.{reward_never_no}}
use Rattle.mdp_farkas.proofs.MeanRules.{mean_never_no}
use Rattle.mdp_farkas.proofs.laws.never_no_law.Goals as goal

pub returns-clause-named : goal.returns-clause-named
returns-clause-named c = λ checks fault e. named_is_false checks fault e

pub returns-clause-upper : goal.returns-clause-upper
returns-clause-upper c = λ m goals z fault r. upper_never_no m goals z r fault

pub returns-clause-reach : goal.returns-clause-reach
returns-clause-reach c = λ dir m goals z policy ranks fault r. reach_never_no m goals z policy ranks dir r fault

pub returns-clause-reward : goal.returns-clause-reward
returns-clause-reward c = λ dir m r goals v policy ranks fault nonneg rules. reward_never_no m r goals v policy ranks nonneg dir rules fault

pub returns-clause-mean : goal.returns-clause-mean
returns-clause-mean c = λ dir m r g a b spread policy fault rules. mean_never_no m r g a b spread policy dir rules fault

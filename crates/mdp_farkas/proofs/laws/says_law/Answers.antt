use Rattle.mdp_farkas.proofs.Saying.{upper_says_all, reach_says_all, reward_says_all, mean_says_all}
use Rattle.mdp_farkas.proofs.laws.says_law.Goals as goal

pub returns-clause-upper : goal.returns-clause-upper
returns-clause-upper c = upper_says_all

pub returns-clause-reach : goal.returns-clause-reach
returns-clause-reach c = λ dir m goals z policy ranks each. reach_says_all m goals z policy ranks dir each

pub returns-clause-reward : goal.returns-clause-reward
returns-clause-reward c = λ dir m r goals v policy ranks named one each. reward_says_all m r goals v policy ranks dir named one each

pub returns-clause-mean : goal.returns-clause-mean
returns-clause-mean c = λ dir m r g a b spread policy named bounds biases each. mean_says_all m r g a b spread policy dir named bounds biases each

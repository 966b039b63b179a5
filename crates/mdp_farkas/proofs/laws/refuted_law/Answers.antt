use Rattle.mdp_farkas.proofs.{ReachTelling.{upper_refuted, reach_refuted}, RewardTelling.{reward_refuted}, MeanTelling.{mean_refuted}}
use Rattle.mdp_farkas.proofs.Places.{upper_in_model, reach_in_model, reward_in_model, mean_in_model}
use Rattle.mdp_farkas.proofs.laws.refuted_law.Goals as goal

pub returns-clause-upper : goal.returns-clause-upper
returns-clause-upper c = λ m goals z fault no. upper_in_model m goals z fault (upper_refuted m goals z fault no)

pub returns-clause-reach : goal.returns-clause-reach
returns-clause-reach c = λ dir m goals z policy ranks fault no. reach_in_model dir m goals z policy ranks fault (reach_refuted dir m goals z policy ranks fault no)

pub returns-clause-reward : goal.returns-clause-reward
returns-clause-reward c = λ dir m r goals v policy ranks fault no. reward_in_model dir m r goals v policy ranks fault (reward_refuted dir m r goals v policy ranks fault no)

pub returns-clause-mean : goal.returns-clause-mean
returns-clause-mean c = λ dir m r g a b spread policy fault no. mean_in_model dir m r g a b spread policy fault (mean_refuted dir m r g a b spread policy fault no)

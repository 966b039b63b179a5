use Rattle.mdp_policy.proofs.{AnEnd.{has_an_end}, Values.{policy_value_unique}}
use Rattle.mdp_policy.proofs.laws.value_law.Goals as goal

pub returns : goal.returns
returns c = record { one_value = policy_value_unique; ends = has_an_end }

use Rattle.mdp_discount_rules.proofs.{Discount.{discount_of_rules}, OneValue.{one_value}}
use Rattle.mdp_discount_rules.proofs.Accepting.{yes_is_accepted, accepted_is_bound}
use Rattle.mdp_discount_rules.proofs.laws.discount_rules_law.Goals as goal

pub returns : goal.returns
returns c = record { bound = discount_of_rules; one_value = one_value; accepted = yes_is_accepted; true_claim = accepted_is_bound }

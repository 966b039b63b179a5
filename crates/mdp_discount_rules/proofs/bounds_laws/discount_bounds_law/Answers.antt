use Rattle.mdp_discount_rules.proofs.{Between.{between_of_rules}, Exact.{exact_is_between}, BoundsAccepting.{yes_is_accepted, accepted_is_bound}}
use Rattle.mdp_discount_rules.proofs.bounds_laws.discount_bounds_law.Goals as goal

pub returns : goal.returns
returns c = record { between = between_of_rules; exact = exact_is_between; accepted = yes_is_accepted; true_claim = accepted_is_bound }

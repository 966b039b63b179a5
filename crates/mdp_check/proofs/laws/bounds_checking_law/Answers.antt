use Rattle.mdp_check.proofs.BoundsAccepting.{yes_accepts_bounds, accepted_bounds_are_true}
use Rattle.mdp_check.proofs.laws.bounds_checking_law.Goals as goal

pub returns : goal.returns
returns c = record { accepted = yes_accepts_bounds; bound = accepted_bounds_are_true }

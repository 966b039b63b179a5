use Rattle.mdp_check.proofs.Accepting.{yes_is_accepted, accepted_is_bound}
use Rattle.mdp_check.proofs.laws.checking_law.Goals as goal

pub returns : goal.returns
returns c = record { accepted = yes_is_accepted; bound = accepted_is_bound }

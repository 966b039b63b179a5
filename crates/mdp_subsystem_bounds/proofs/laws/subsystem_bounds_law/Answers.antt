use Rattle.mdp_subsystem_bounds.proofs.{Rules.{rules_reach}, Accepting.{yes_is_accepted, accepted_is_bound}}
use Rattle.mdp_subsystem_bounds.proofs.laws.subsystem_bounds_law.Goals as goal

pub returns : goal.returns
returns c = record { rules = rules_reach; accepted = yes_is_accepted; bound = accepted_is_bound }

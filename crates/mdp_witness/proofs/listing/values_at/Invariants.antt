use Rattle.std.proofs.Common.{◌≡◌, take}
use Rattle.mdp_subsystem_rules.specs.Listed.{values_at}
use Rattle.mdp_witness.proofs.listing.values_at.Given as goal

abbrev pub invariant-loop-s : goal.invariant-loop-s
invariant-loop-s l = l.list.items ≡ values_at l.values (take l.s-index l.states)

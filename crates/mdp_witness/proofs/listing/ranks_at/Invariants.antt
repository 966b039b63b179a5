use Rattle.std.proofs.Common.{◌≡◌, take}
use Rattle.mdp_subsystem_rules.specs.Listed.{ranks_at}
use Rattle.mdp_witness.proofs.listing.ranks_at.Given as goal

abbrev pub invariant-loop-s : goal.invariant-loop-s
invariant-loop-s l = l.list.items ≡ ranks_at l.ranks (take l.s-index l.states)

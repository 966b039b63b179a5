use Rattle.std.proofs.Common.{◌≡◌, take}
use Rattle.mdp_subsystem_rules.specs.Listed.{marks_at}
use Rattle.mdp_witness.proofs.listing.marks_at.Given as goal

abbrev pub invariant-loop-s : goal.invariant-loop-s
invariant-loop-s l = l.list.items ≡ marks_at l.marks (take l.s-index l.states)

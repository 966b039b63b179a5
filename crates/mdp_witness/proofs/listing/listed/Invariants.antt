use Rattle.std.proofs.Common.{◌≡◌}
use Rattle.mdp_subsystem_rules.specs.Listed.{listed}
use Rattle.mdp_witness.proofs.listing.listed.Given as goal

abbrev pub invariant-loop-s : goal.invariant-loop-s
invariant-loop-s l = l.list.items ≡ listed l.s l.marks

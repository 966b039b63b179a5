use Rattle.std.proofs.Common.{◌≡◌, take}
use Rattle.mdp_subsystem_search.proofs.removal.copied.Given as goal

abbrev pub invariant-loop-s : goal.invariant-loop-s
invariant-loop-s l = l.items.items ≡ take l.s l.marks

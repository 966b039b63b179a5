use Rattle.std.proofs.Common.{◌≡◌, take, map, not}
use Rattle.mdp_subsystem_search.proofs.whole.others.Given as goal

abbrev pub invariant-loop-s : goal.invariant-loop-s
invariant-loop-s l = l.items.items ≡ map not (take l.s l.goals)

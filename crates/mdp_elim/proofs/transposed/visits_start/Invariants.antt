use Rattle.std.proofs.Common.{◌≡◌, map}
use Rattle.std.specs.List.{range_with_len}
use Rattle.mdp_elim.specs.Visits.{start_equation}
use Rattle.mdp_elim.proofs.transposed.visits_start.Given as goal

abbrev pub invariant-loop-s : goal.invariant-loop-s
invariant-loop-s l = l.equations.items ≡ map (start_equation l.start) (range_with_len 0 l.s)

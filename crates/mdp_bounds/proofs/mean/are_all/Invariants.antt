use Rattle.std.proofs.Common.{◌≡◌, true, take}
use Rattle.std.specs.List.{list_all}
use Rattle.mdp_num.specs.Equal.{eq_ℚ}
use Rattle.mdp_bounds.proofs.mean.are_all.Given as goal

abbrev pub invariant-loop-other : goal.invariant-loop-other
invariant-loop-other l = list_all (eq_ℚ l.value) (take l.other-index l.values) ≡ true

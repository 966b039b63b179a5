use Rattle.std.proofs.Common.{◌≡◌, drop, map}
use Rattle.mdp_horizon.specs.{Columns.{covered, covered_from}, Short.{known}, BoundsCode.{plain_short}}
use Rattle.mdp_horizon.proofs.short_best.short_covered.Given as goal

abbrev pub invariant-loop-c : goal.invariant-loop-c
invariant-loop-c l = covered l.dir (known l.values) (map plain_short l.choices) ≡ covered_from l.dir (known l.values) l.far (drop l.c (map plain_short l.choices))

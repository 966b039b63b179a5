use Rattle.std.proofs.Common.{◌≡◌, drop}
use Rattle.mdp_horizon.specs.{Columns.{covered, covered_from}, BoundsCode.{values_of, plain_choices}}
use Rattle.mdp_horizon.proofs.best.wide_covered.Given as goal

abbrev pub invariant-loop-c : goal.invariant-loop-c
invariant-loop-c l = covered l.dir (values_of l.column) (plain_choices l.choices) ≡ covered_from l.dir (values_of l.column) l.far (drop l.c (plain_choices l.choices))

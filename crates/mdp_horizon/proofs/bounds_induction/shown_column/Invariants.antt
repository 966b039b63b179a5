use Rattle.std.proofs.Common.{◌≡◌, map, take}
use Rattle.mdp_horizon.specs.{Columns.{shown}, BoundsCode.{values_of}}
use Rattle.mdp_horizon.proofs.bounds_induction.shown_column.Given as goal

abbrev pub invariant-loop-s : goal.invariant-loop-s
invariant-loop-s l = l.values.items ≡ map (shown l.one) (take l.s (values_of l.column))

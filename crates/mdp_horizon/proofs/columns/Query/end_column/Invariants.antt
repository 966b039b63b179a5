use Rattle.std.proofs.Common.{◌≡◌, map, Some}
use Rattle.std.specs.List.{range_with_len}
use Rattle.mdp_horizon.specs.{Columns.{ended}, Code.{plain_objective}, BoundsCode.{values_of}}
use Rattle.mdp_horizon.proofs.columns.Query.end_column.Given as goal

abbrev pub invariant-loop-s : goal.invariant-loop-s
invariant-loop-s l = values_of l.column ≡ map (λ s. Some (ended l.fn.self.one (plain_objective l.fn.self.objective) s)) (range_with_len 0 l.s)

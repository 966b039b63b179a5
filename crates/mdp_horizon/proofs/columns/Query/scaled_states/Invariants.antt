use Rattle.std.proofs.Common.{◌≡◌, map}
use Rattle.std.specs.List.{range_with_len}
use Rattle.mdp_horizon.specs.{Columns.{scaled_state}, Code.{plain_objective}, BoundsCode.{plain_choices}}
use Rattle.mdp_horizon.proofs.columns.Query.scaled_states.Given as goal

abbrev pub invariant-loop-s : goal.invariant-loop-s
invariant-loop-s l =
    map plain_choices l.rows.items ≡ map (scaled_state l.fn.self.one l.fn.self.model.now (plain_objective l.fn.self.objective)) (range_with_len 0 l.s)

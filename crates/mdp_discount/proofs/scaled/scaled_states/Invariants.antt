use Rattle.std.proofs.Common.{◌≡◌, map}
use Rattle.std.specs.List.{range_with_len}
use Rattle.mdp_discount.specs.ScaledView.{rows_in, scaled_rows}
use Rattle.mdp_discount.proofs.scaled.scaled_states.Given as goal

abbrev pub invariant-loop-s : goal.invariant-loop-s
invariant-loop-s l = map rows_in l.states.items ≡ map (scaled_rows l.model l.factor) (range_with_len 0 l.s)

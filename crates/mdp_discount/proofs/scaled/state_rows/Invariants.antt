use Rattle.std.proofs.Common.{◌≡◌, map}
use Rattle.std.specs.{List.{range_with_len}, Option.{option_map}}
use Rattle.mdp_spec.specs.Mdp.{states_of, row_at}
use Rattle.mdp_discount.specs.ScaledView.{row_in, scaled_row}
use Rattle.mdp_discount.proofs.scaled.state_rows.Given as goal

abbrev pub invariant-loop-c : goal.invariant-loop-c
invariant-loop-c l = map (option_map row_in) l.rows.items ≡ map (λ c. scaled_row (states_of l.model) l.factor (row_at l.model l.s c)) (range_with_len 0 l.c)

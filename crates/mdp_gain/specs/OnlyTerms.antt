-- Written terms where each bias is 0.
use Rattle.std.specs.{Prelude.{ℕ, List, map, Option, pos}, List.{range_with_len}}
use Rattle.mdp_math.specs.{Rational.{ℚ, of_int}, Written.{◌>>=◌}}
use Rattle.mdp_num.specs.Written.{written_div}
use Rattle.mdp_spec.specs.Written.{written_sum}
use Rattle.mdp_unichain.specs.Component.{Choice}

-- n biases
abbrev pub zeros : ℕ → List ℚ
zeros n = map (λ t. of_int (pos 0)) (range_with_len 0 n)

-- the gain of a choice that stays at its state, among n states: what a step earns, by the number of steps, which is 1
abbrev pub ratio_of : ℕ → Choice → Option ℚ
ratio_of n choice = do
  earned ← written_sum (zeros n) choice.reward choice.row
  steps ← written_sum (zeros n) (of_int (pos 1)) choice.row
  written_div earned steps

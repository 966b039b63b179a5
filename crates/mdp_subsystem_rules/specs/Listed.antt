-- What is printed of marks, values and ranks that a solver has for each state: the kept states ascending, and for each of them whether it is
-- marked as wide, its value and its rank.
use Rattle.std.specs.{Prelude.{ℕ, Bool, List, map, slice_index}, List.{filter, range_with_len}}
use Rattle.mdp_math.specs.Rational.{ℚ}
use Rattle.mdp_spec.specs.{Mdp.{value_at}, Tree.{is_marked}}

-- the marked ones of n states, ascending
abbrev pub listed : ℕ → List Bool → List ℕ
listed n marks = filter (is_marked marks) (range_with_len 0 n)

-- the marks of these states, their values and their ranks
abbrev pub marks_at : List Bool → List ℕ → List Bool
marks_at marks states = map (is_marked marks) states

abbrev pub values_at : List ℚ → List ℕ → List ℚ
values_at z states = map (value_at z) states

abbrev pub ranks_at : List ℕ → List ℕ → List ℕ
ranks_at ranks states = map (slice_index ranks) states

-- The values of the bounds that say nothing of rewards.
use Rattle.std.specs.{Prelude.{ℕ, Bool, List, map, if◌then◌else◌, Option, Some, None}, List.{range_with_len}}
use Rattle.mdp_math.specs.Rational.{ℚ}
use Rattle.mdp_spec.specs.Tree.{is_marked}
use Rattle.mdp_farkas.specs.Compare.{0ℚ}

-- 0 at a marked state, infinite at any other
abbrev pub zero_by : List Bool → ℕ → Option ℚ
zero_by marks s = if is_marked marks s then Some 0ℚ else None

-- of the first n states
abbrev pub zeros_of : ℕ → List Bool → List (Option ℚ)
zeros_of n marks = map (zero_by marks) (range_with_len 0 n)

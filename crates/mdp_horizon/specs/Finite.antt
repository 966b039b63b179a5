-- Values that are there, as probabilities.
use Rattle.std.specs.Prelude.{◌≡◌, ℕ, ◌<◌, List, Option, Some, pos}
use Rattle.mdp_math.specs.Rational.{ℚ, of_int, ◌≤ℚ◌}
use Rattle.mdp_spec.specs.Bounds.{reward_at}

-- each of the first n values is there, and lies from 0 to 1
abbrev pub AreProbabilities : ℕ → List (Option ℚ) → Type 0
AreProbabilities n column = (s : ℕ) → s < n → (x : ℚ) × (reward_at column s ≡ Some x) × (of_int (pos 0) ≤ℚ x) × (x ≤ℚ of_int (pos 1))

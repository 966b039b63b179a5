-- A probability of a row.
use Rattle.std.specs.Prelude.{pos}
use Rattle.mdp_math.specs.Rational.{ℚ, of_int, ◌≤ℚ◌, ◌<ℚ◌}

-- above 0 and at most 1
pub record IsProbability (p : ℚ) : Type 0 where
  pub above : of_int (pos 0) <ℚ p
  pub at_most : p ≤ℚ of_int (pos 1)

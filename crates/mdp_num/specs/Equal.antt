-- Equality of fractions, as a test of their terms.
use Rattle.std.specs.{Prelude.{Bool, ◌==◌, ◌&&◌}, Ordering.{int_eq}}
use Rattle.mdp_math.specs.Rational.{ℚ}

abbrev pub eq_ℚ : ℚ → ℚ → Bool
eq_ℚ x y = int_eq x.num y.num && (x.den == y.den)

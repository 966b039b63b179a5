-- Powers of a fraction.
use Rattle.std.proofs.Common.{ℕ, zero, suc, pos}
use Rattle.mdp_math.specs.Rational.{ℚ, of_int, ◌*ℚ◌}

-- x, n times as a factor
abbrev pub pow_ℚ : ℚ → ℕ → ℚ
pow_ℚ x zero = of_int (pos 1)
pow_ℚ x (suc n) = x *ℚ pow_ℚ x n

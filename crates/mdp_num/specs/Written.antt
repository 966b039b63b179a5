-- Written subtraction and division: a sum with the negated second, and a product with the reciprocal.
use Rattle.std.specs.Prelude.{Option}
use Rattle.mdp_math.specs.{Rational.{ℚ, neg_ℚ, inv_ℚ}, Written.{written_add, written_mul}}

abbrev pub written_sub : ℚ → ℚ → Option ℚ
written_sub x y = written_add x (neg_ℚ y)

abbrev pub written_div : ℚ → ℚ → Option ℚ
written_div x y = written_mul x (inv_ℚ y)

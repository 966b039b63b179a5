-- Whole numbers as fractions.
use Rattle.std.proofs.{Common.{◌≡◌, ℕ, suc, ◌+◌, ◌*◌, ◌<◌, ◌≤◌, ◌∙◌, ap, arith, pos, ◌+ℤ◌}}
use Rattle.std.proofs.lemmas.Int.{ints}
use Rattle.mdp_math.specs.{Rational.{of_int, ratio, lt_ℚ, ◌+ℚ◌, ◌*ℚ◌, ◌≤ℚ◌, ◌<ℚ◌}}
use Rattle.mdp_math.proofs.{Laws.{of_int-+ℤ, of_int-*ℤ, is_of_int, is_ratio}, Order.{0ℚ, 1ℚ, of_int-le, is_positive, strict_of}}

pub one-pos : 0ℚ <ℚ 1ℚ
unfolding lt_ℚ of_int
one-pos = record { lt = tt }

pub of_nat-suc : (n : ℕ) → of_int (pos (suc n)) ≡ of_int (pos n) +ℚ 1ℚ
of_nat-suc n = let e : pos (suc n) ≡ pos n +ℤ pos 1 = omega (arith, ints) in ap of_int e ∙ of_int-+ℤ (pos n) (pos 1)

pub of_nat-add : (m n : ℕ) → of_int (pos (m + n)) ≡ of_int (pos m) +ℚ of_int (pos n)
of_nat-add m n = of_int-+ℤ (pos m) (pos n)

pub of_nat-mul : (m n : ℕ) → of_int (pos (m * n)) ≡ of_int (pos m) *ℚ of_int (pos n)
of_nat-mul m n = of_int-*ℤ (pos m) (pos n)

pub of_nat-nonneg : (n : ℕ) → 0ℚ ≤ℚ of_int (pos n)
of_nat-nonneg n = of_int-le (pos 0) (pos n) (omega (arith, ints))

pub of_nat-pos : (n : ℕ) → 0 < n → 0ℚ <ℚ of_int (pos n)
of_nat-pos n h = is_positive (of_int (pos n)) (strict_of (of_int (pos n)) (pos n) 1 (is_of_int (pos n)) (omega (arith, ints)))

pub ratio-pos : (m k : ℕ) → 0 < m → 0 < k → 0ℚ <ℚ ratio (pos m) k
ratio-pos m k h l = is_positive (ratio (pos m) k) (strict_of (ratio (pos m) k) (pos m) k (is_ratio (pos m) k l) (omega (arith, ints)))

pub of_nat-le : (m n : ℕ) → m ≤ n → of_int (pos m) ≤ℚ of_int (pos n)
of_nat-le m n h = of_int-le (pos m) (pos n) (omega (arith, ints))

-- Whether a fraction is below 1, by its numerator and denominator.
use Rattle.std.proofs.Common.{◌≡◌, Bool, true, false, refl, sym, subst, pos, ℤ, ◌*ℤ◌}
use Rattle.std.specs.Prelude.{◌<ℤ◌, ◌≤ℤ◌}
use Rattle.mdp_math.specs.Rational.{ℚ, of_int, lt_ℚ, ◌≤ℚ◌, ◌<ℚ◌}
use Rattle.mdp_math.proofs.{Ring.{◌⊗◌, lit, ring}, IntegerRing.{int_ring}, Order.{1ℚ, across_le, across_lt}, Extremes.{test_of_lt, no_test_of_le}}

times-one : (x : ℤ) → x *ℤ pos 1 ≡ x
times-one x = ring int_ring 1 (λ x. x ⊗ lit (pos 1)) (λ x. x) refl x

one-times : (x : ℤ) → pos 1 *ℤ x ≡ x
one-times x = ring int_ring 1 (λ x. lit (pos 1) ⊗ x) (λ x. x) refl x

below-one : (f : ℚ) → f.num <ℤ pos f.den → f <ℚ 1ℚ
unfolding of_int
below-one f h = across_lt f 1ℚ (subst (λ (x : ℤ). x <ℤ (pos 1 *ℤ pos f.den)) (sym (times-one f.num)) (subst (λ (x : ℤ). f.num <ℤ x) (sym (one-times (pos f.den))) h))

above-one : (f : ℚ) → pos f.den ≤ℤ f.num → 1ℚ ≤ℚ f
unfolding of_int
above-one f h = across_le 1ℚ f (subst (λ (x : ℤ). x ≤ℤ (f.num *ℤ pos 1)) (sym (one-times (pos f.den))) (subst (λ (x : ℤ). pos f.den ≤ℤ x) (sym (times-one f.num)) h))

-- by a test of them
pub below_one_by : (b : Bool) (f : ℚ) → (b ≡ true → f.num <ℤ pos f.den) → (b ≡ false → pos f.den ≤ℤ f.num) → b ≡ lt_ℚ f (of_int (pos 1))
below_one_by true f below above = sym (test_of_lt f 1ℚ (below-one f (below refl)))
below_one_by false f below above = sym (no_test_of_le f 1ℚ (above-one f (above refl)))

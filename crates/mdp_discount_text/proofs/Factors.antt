-- A discount factor by its numerator and denominator.
use Rattle.std.proofs.{Common.{◌≡◌, Bool, true, false, ◌&&◌, ⊎_elim, refl, sym, ◌∙◌, ap, ap₂, subst, pos, ℤ, ◌*ℤ◌}, lemmas.Bool.{cases_Bool}}
use Rattle.std.specs.Prelude.{◌<ℤ◌, ◌≤ℤ◌}
use Rattle.mdp_math.specs.Rational.{ℚ, of_int, le_ℚ, lt_ℚ, ◌≤ℚ◌, ◌<ℚ◌}
use Rattle.mdp_math.proofs.{Ring.{◌⊗◌, lit, ring}, IntegerRing.{int_ring}, Booleans.{and-parts, and-false}, Order.{0ℚ, 1ℚ, across_le, across_lt, clash_ℚ}}
use Rattle.mdp_math.proofs.Extremes.{le_of_test, test_of_le, lt_of_test, test_of_lt, no_test_of_le}
use Rattle.mdp_discount_rules.specs.Rules.{IsFactor}
use Rattle.mdp_discount_text.specs.Text.{is_factor}

pub factor-yes : (f : ℚ) → 0ℚ ≤ℚ f → f <ℚ 1ℚ → true ≡ is_factor f
factor-yes f h k = sym (ap₂ (λ (a b : Bool). a && b) (test_of_le 0ℚ f h) (test_of_lt f 1ℚ k))

pub factor-low : (f : ℚ) → f <ℚ 0ℚ → false ≡ is_factor f
factor-low f h = ⊎_elim (λ t. absurd (clash_ℚ f 0ℚ h (le_of_test 0ℚ f t))) (λ t. sym (ap (λ (a : Bool). a && lt_ℚ f 1ℚ) t)) (cases_Bool (le_ℚ 0ℚ f))

pub factor-high : (f : ℚ) → 1ℚ ≤ℚ f → false ≡ is_factor f
factor-high f h = sym (ap (λ (b : Bool). le_ℚ 0ℚ f && b) (no_test_of_le f 1ℚ h) ∙ and-false (le_ℚ 0ℚ f))

times-one : (x : ℤ) → x *ℤ pos 1 ≡ x
times-one x = ring int_ring 1 (λ x. x ⊗ lit (pos 1)) (λ x. x) refl x

one-times : (x : ℤ) → pos 1 *ℤ x ≡ x
one-times x = ring int_ring 1 (λ x. lit (pos 1) ⊗ x) (λ x. x) refl x

pub below-one : (f : ℚ) → f.num <ℤ pos f.den → f <ℚ 1ℚ
unfolding of_int
below-one f h = across_lt f 1ℚ (subst (λ (x : ℤ). x <ℤ (pos 1 *ℤ pos f.den)) (sym (times-one f.num)) (subst (λ (x : ℤ). f.num <ℤ x) (sym (one-times (pos f.den))) h))

pub above-one : (f : ℚ) → pos f.den ≤ℤ f.num → 1ℚ ≤ℚ f
unfolding of_int
above-one f h = across_le 1ℚ f (subst (λ (x : ℤ). x ≤ℤ (f.num *ℤ pos 1)) (sym (one-times (pos f.den))) (subst (λ (x : ℤ). pos f.den ≤ℤ x) (sym (times-one f.num)) h))

pub factor-is : (f : ℚ) → is_factor f ≡ true → IsFactor f
factor-is f h = let p = and-parts (le_ℚ 0ℚ f) (lt_ℚ f 1ℚ) h in record { at_least_zero = le_of_test 0ℚ f p.0; below_one = lt_of_test f 1ℚ p.1 }

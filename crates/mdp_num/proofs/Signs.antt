-- The sign of a fraction is that of its numerator.
use Rattle.std.proofs.Common.{◌≡◌, ◌↔◌, ℕ, zero, suc, ◌<◌, Bool, refl, sym, ap, ◌∙◌, arith, ℤ, pos, negsuc, ◌*ℤ◌, ◌<ℤ◌, unsigned_abs, int_lt, le-ltb}
use Rattle.std.proofs.lemmas.Int.{ints}
use Rattle.std.specs.Int.{int_signum}
use lib.IntN.{zero-*ℤ}
use Rattle.mdp_math.specs.{Rational.{ℚ, ratio, of_int, flip_int, inv_ℚ, ◌<ℚ◌}, Written.{signed}}
use Rattle.mdp_math.proofs.{Laws.{same_is, is_self, is_of_int, num-of_int}, Order.{0ℚ, positive, is_positive, lt_across, across_lt}}

pub num-zero : (x : ℚ) → x.num ≡ pos 0 → x ≡ 0ℚ
num-zero x e = same_is x 0ℚ _ _ _ _ (is_self x) (is_of_int (pos 0)) (ap (λ (k : ℤ). k *ℤ pos 1) e ∙ sym (zero-*ℤ (pos x.den)))

signum-zero : (z : ℤ) → int_signum z ≡ pos 0 → z ≡ pos 0
signum-zero z e = grind (arith, ints)

signum-positive : (z : ℤ) → (pos 0 <ℤ int_signum z) ↔ (pos 0 <ℤ z)
signum-positive z = (λ h. grind (arith, ints), λ h. grind (arith, ints))

signum-negative : (z : ℤ) → (int_signum z <ℤ pos 0) ↔ (z <ℤ pos 0)
signum-negative z = (λ h. grind (arith, ints), λ h. grind (arith, ints))

-- below 0, across
below : (z : ℤ) (d : ℤ) → ((z *ℤ pos 1) <ℤ (pos 0 *ℤ d)) ↔ (z <ℤ pos 0)
below z d = (λ h. omega (arith, ints), λ h. omega (arith, ints))

pub sign-zero : (x : ℚ) → (int_signum x.num ≡ pos 0) ↔ (x ≡ 0ℚ)
sign-zero x = (λ e. num-zero x (signum-zero x.num e), λ e. ap int_signum (ap (λ (z : ℚ). z.num) e ∙ num-of_int (pos 0)))

pub sign-positive : (x : ℚ) → (pos 0 <ℤ int_signum x.num) ↔ (0ℚ <ℚ x)
sign-positive x = (λ h. is_positive x ((signum-positive x.num).0 h), λ h. (signum-positive x.num).1 (positive x h))

pub sign-negative : (x : ℚ) → (int_signum x.num <ℤ pos 0) ↔ (x <ℚ 0ℚ)
unfolding of_int
sign-negative x = (
  λ h. across_lt x 0ℚ ((below x.num (pos x.den)).1 ((signum-negative x.num).0 h)),
  λ h. (signum-negative x.num).1 ((below x.num (pos x.den)).0 (lt_across x 0ℚ h)),
)

-- ---- the reciprocal

pub num-nonzero : (x : ℚ) → (x ≡ 0ℚ → ⊥) → 0 < unsigned_abs x.num
num-nonzero x h = pos_or (unsigned_abs x.num) refl
  where
    none : (z : ℤ) → unsigned_abs z ≡ 0 → z ≡ pos 0
    none z e = omega (arith, ints)

    pos_or : (n : ℕ) → unsigned_abs x.num ≡ n → 0 < n
    pos_or zero e = absurd (h (num-zero x (none x.num e)))
    pos_or (suc n) e = omega arith

flipped : (z : ℤ) (d : ℕ) → ratio (signed (int_lt z (pos 0)) d) (unsigned_abs z) ≡ flip_int z d
flipped (pos n) d = ap (λ (b : Bool). ratio (signed b d) n) (le-ltb n 0 (omega arith))
flipped (negsuc n) d = refl

pub reciprocal_is : (x : ℚ) → ratio (signed (int_lt x.num (pos 0)) x.den) (unsigned_abs x.num) ≡ inv_ℚ x
unfolding inv_ℚ
reciprocal_is x = flipped x.num x.den

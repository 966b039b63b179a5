-- Quotients of two whole numbers in width.
use Rattle.std.proofs.Common.{◌≡◌, ◌≢◌, ◌∙◌, ℕ, zero, suc, ◌/◌, ◌<◌, ◌≤◌, ◌^◌, div-le_self, Option, Some, None, refl, sym, ap, arith}
use Rattle.std.proofs.{Common.{ℤ, pos, unsigned_abs}, lemmas.Int.{ints}}
use Rattle.mdp_math.specs.{Gcd.{gcd}, Integers.{abs_div}, Rational.{ℚ, ratio}, Written.{narrow_ℚ}}
use Rattle.mdp_math.proofs.Written.{narrow_ℚ-kept, narrow_ℚ-some}
use Rattle.mdp_num.specs.Value.{quotient}

pub den_of : (n : ℤ) (d : ℕ) → 0 < d → ℚ.den (ratio n d) ≡ d / gcd (unsigned_abs n) d
unfolding ratio
den_of n zero h = absurd (omega arith)
den_of n (suc d) h = refl

pub num_of : (n : ℤ) (d : ℕ) → 0 < d → unsigned_abs (ℚ.num (ratio n d)) ≡ unsigned_abs n / gcd (unsigned_abs n) d
unfolding ratio
num_of n zero h = absurd (omega arith)
num_of n (suc d) h = abs_div n (gcd (unsigned_abs n) (suc d))

-- it is in width
pub kept : (n : ℤ) (d : ℕ) → 0 < d → unsigned_abs n < 2 ^ 127 → d < 2 ^ 127 → narrow_ℚ (ratio n d) ≡ Some (ratio n d)
kept n d h l k =
    let g : ℕ = gcd (unsigned_abs n) d in
    let p : unsigned_abs n / g ≤ unsigned_abs n = div-le_self (unsigned_abs n) g in
    let q : d / g ≤ d = div-le_self d g in
    narrow_ℚ-kept (ratio n d) (omega (arith, num_of n d h)) (omega (arith, den_of n d h))

-- what a quotient's denominator is
pub beyond_told : (n : ℤ) (d : ℕ) (D : ℤ) (q : ℚ) (r : ℤ) → 0 < d → D ≡ pos d → (D ≢ pos 0 → Some q ≡ narrow_ℚ (quotient n D))
    → r ≡ pos q.den → r ≡ pos (d / gcd (unsigned_abs n) d)
beyond_told n d D q r h e told is =
    let some : D ≢ pos 0 = λ z. absurd (omega (arith, ints, sym e ∙ z)) in
    let same : q ≡ ratio n d = narrow_ℚ-some (ratio n d) q (told some ∙ ap (λ (z : ℤ). narrow_ℚ (quotient n z)) e) in
    is ∙ ap (λ (x : ℚ). pos x.den) same ∙ ap pos (den_of n d h)

pub beyond_kept : (n : ℤ) (d : ℕ) (D : ℤ) → 0 < d → d < 2 ^ 127 → unsigned_abs n < 2 ^ 127 → D ≡ pos d
    → (D ≢ pos 0 → (let o : Option ℚ = None in o) ≡ narrow_ℚ (quotient n D)) → ⊥
beyond_kept n d D h k l e told =
    let some : D ≢ pos 0 = λ z. absurd (omega (arith, ints, sym e ∙ z)) in
    let none : (let o : Option ℚ = None in o) ≡ Some (ratio n d) = told some ∙ ap (λ (z : ℤ). narrow_ℚ (quotient n z)) e ∙ kept n d h l k in
    cc

-- Where the greatest common divisor of two denominators is small, a numerator over their least common multiple is past width.
use Rattle.std.proofs.Common.{◌≡◌, ℕ, ◌*◌, ◌/◌, ◌^◌, ◌<◌, ◌≤◌, ◌⊎◌, inl, inr, sym, ◌∙◌, ap, arith, pos, unsigned_abs, None, max, ℤ, to_z, of_z, to_z-of_z}
use Rattle.std.proofs.{lemmas.Int.{unsigned_abs-mul, fits_signed_from_abs}, Math.Nat.{mul-le-mul}}
use mir.Syntax.{w128}
use native.Mathlib.Nat.{mul-div_cancel', mul-le-mul_right, le_of_mul-le-mul_right}
use Rattle.mdp_math.specs.{Gcd.{gcd, gcd_is, gcd_comm, gcd-pos, gcd-le_right}, Rational.{ℚ}, Written.{narrow, across}}
use Rattle.mdp_math.proofs.{Laws.{den-pos}, Written.{narrow-past}}
use Rattle.mdp_num.specs.Value.{IsNarrow}
use Rattle.mdp_num.proofs.Divisors.{by_order}

pub halves : (a b p q : ℕ) → p ≡ a / 2 ^ 64 → q ≡ b / 2 ^ 64 → p * q * 2 ^ 128 ≤ a * b
halves a b p q e f =
    let u : p * 2 ^ 64 ≤ a = omega (arith, e) in
    let v : q * 2 ^ 64 ≤ b = omega (arith, f) in
    let l : (p * 2 ^ 64) * (q * 2 ^ 64) ≤ a * b = mul-le-mul u v in
    omega (arith, l)

-- n (d/g) from n d, where g is at most k
quotient-past : (n d g q k : ℕ) → 0 < g → g * q ≡ d → g ≤ k → k * 2 ^ 128 ≤ n * d → 2 ^ 128 ≤ n * q
quotient-past n d g q k h e l m =
    let u : g * 2 ^ 128 ≤ k * 2 ^ 128 = mul-le-mul_right (2 ^ 128) l in
    let v : n * d ≡ (n * q) * g = ap (λ (x : ℕ). n * x) (sym e) ∙ omega arith in
    let w : 2 ^ 128 * g ≤ (n * q) * g = omega (arith, u, v, m) in
    le_of_mul-le-mul_right w h

across-past : (x y : ℚ) (k : ℕ) → k * 2 ^ 128 ≤ unsigned_abs x.num * y.den → gcd x.den y.den ≤ k → narrow (across x y) ≡ None
across-past x y k h l =
    let g : ℕ = gcd x.den y.den in
    let q : ℕ = y.den / gcd x.den y.den in
    let p : 2 ^ 128 ≤ unsigned_abs x.num * (y.den / gcd x.den y.den) = quotient-past (unsigned_abs x.num) y.den (gcd x.den y.den) (y.den / gcd x.den y.den) k (gcd-pos x.den y.den (den-pos y))
    (mul-div_cancel' (gcd x.den y.den) (gcd_is x.den y.den).1) l h in
    narrow-past _ (omega (arith, p, unsigned_abs-mul x.num (pos (y.den / gcd x.den y.den))))

pub either-past : (x y : ℚ) (k l m : ℕ) → k * 2 ^ 128 ≤ unsigned_abs x.num * y.den → l * 2 ^ 128 ≤ unsigned_abs y.num * x.den → m ≡ max k l → gcd x.den y.den ≤ m
    → (narrow (across x y) ≡ None) ⊎ (narrow (across y x) ≡ None)
either-past x y k l m h i e s = by_order k l
    (λ o. inr (across-past y x l i (omega (arith, e, o, s, gcd_comm x.den y.den))))
    (λ o. inl (across-past x y k h (omega (arith, e, o, s))))

pub den_divisor-bits : (x y : ℚ) (z : ℤ) → IsNarrow y → z ≡ pos (gcd x.den y.den) → to_z w128 (of_z w128 z) ≡ pos (gcd x.den y.den)
den_divisor-bits x y z i e = to_z-of_z (fits_signed_from_abs w128 z (omega (arith, ap unsigned_abs e, gcd-le_right x.den y.den (den-pos y), i.bottom))) ∙ e

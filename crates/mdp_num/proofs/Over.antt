-- A number over a denominator that may be a multiple of its own.
use Rattle.std.proofs.Common.{◌≡◌, ℕ, suc, ◌*◌, ◌/◌, ◌%◌, ◌<◌, ◌≤◌, ◌^◌, sym, ◌∙◌, ap, ap₂, subst, arith, ℤ, pos, negsuc, ◌*ℤ◌, ◌-◌, to_z, of_z, to_z-of_z}
use Rattle.std.proofs.{lemmas.Int.{ints, fits_signed_mul}, lemmas.Nat.Gcd.{mod-eq-zero_of_dvd, dvd_of_mod-eq-zero}}
use Rattle.std.proofs.Math.Nat.{div-le_self, le_of_dvd, le-mul_of_pos_right, mul-div_cancel'}
use Rattle.std.specs.{Int.{◌∣◌}, Prelude.{FitsSigned}}
use lib.Signed.{mag}
use mir.Syntax.{w64, w128}
use Rattle.mdp_math.specs.Rational.{ℚ, ratio, quotient-pos}
use Rattle.mdp_math.proofs.{Laws.{Is, is_ratio}, Shared.{is-den, is-num, ratio-multiple}}
use Rattle.mdp_num.proofs.Values.{result-bits}

factor-fits : (a : ℤ) (k : ℕ) → 0 < k → FitsSigned w64 (a *ℤ pos k) → FitsSigned w64 a
factor-fits (pos a) k h p = let l : a ≤ a * k = le-mul_of_pos_right a h in omega (arith, ints, p, l)
factor-fits (negsuc a) k h p = let l : suc a ≤ suc a * k = le-mul_of_pos_right (suc a) h in omega (arith, ints, p, l)

module _ (x : ℚ) (n : ℤ) (d : ℕ) (h : 0 < d) (e : x ≡ ratio n d) where
  same : Is x n d
  same = subst (λ (y : ℚ). Is y n d) (sym e) (is_ratio n d h)

  pub over-divides : x.den ∣ d
  over-divides = is-den x n d same

  pub over-whole : d % x.den ≡ 0
  over-whole = mod-eq-zero_of_dvd x.den over-divides

  pub over-den_le : x.den ≤ d
  over-den_le = le_of_dvd h over-divides

  pub over-num : x.num *ℤ pos (d / x.den) ≡ n
  over-num = is-num x n d same

  pub over-fits : FitsSigned w64 n → FitsSigned w64 x.num
  over-fits p = factor-fits x.num (d / x.den) (quotient-pos d x.den h over-divides) (subst (FitsSigned w64) (sym over-num) p)

-- and that denominator is one
pub over-is : (x : ℚ) (d : ℕ) → 0 < d → d % x.den ≡ 0 → x ≡ ratio (x.num *ℤ pos (d / x.den)) d
over-is x d h m =
    let q : x.den ∣ d = dvd_of_mod-eq-zero x.den m in
    sym (ratio-multiple x (d / x.den) (quotient-pos d x.den h q)) ∙ ap (λ (k : ℕ). ratio (x.num *ℤ pos (d / x.den)) k) (mul-div_cancel' x.den q)

-- ---- how code computes it: a numerator that was read in 64 bits, times the factor, both at 128

pub numerator-bits : (z a n s : ℤ) → mag z < 2 ^ 127 → z ≡ a → FitsSigned w64 (to_z w128 (of_z w128 z)) → n ≡ to_z w128 (of_z w128 z) → mag s < 2 ^ 127 → s ≡ to_z w64 (of_z w64 n)
    → FitsSigned w64 a × (to_z w128 (of_z w128 s) ≡ a)
numerator-bits z a n s h e p f k g =
    let t : to_z w128 (of_z w128 z) ≡ a = result-bits z h ∙ e in
    (subst (FitsSigned w64) t p, result-bits s k ∙ g ∙ to_z-of_z (subst (FitsSigned w64) (sym f) p) ∙ f ∙ t)

pub factor-bits : (r : ℤ) (d n m : ℕ) → mag r < 2 ^ 127 → r ≡ pos (d / n) → n ≡ m → to_z w128 (of_z w128 r) ≡ pos (d / m)
factor-bits r d n m h e f = result-bits r h ∙ e ∙ ap (λ (k : ℕ). pos (d / k)) f

pub product-bits : (u v a : ℤ) (d m : ℕ) → FitsSigned w64 a × (u ≡ a) → v ≡ pos (d / m) → d < 2 ^ 64
    → FitsSigned w128 (u *ℤ v) × (to_z w128 (of_z w128 (u *ℤ v)) ≡ a *ℤ pos (d / m))
product-bits u v a d m p f h =
    let l : d / m ≤ d = div-le_self d m in
    let q = p.0 in
    let e = p.1 in
    let fits : FitsSigned w128 (u *ℤ v) = fits_signed_mul w128 u v (2 ^ 63) (2 ^ 64 - 1) (omega (arith, ints, q, e)) (omega (arith, ints, f, l, h)) (omega arith) in
    (fits, to_z-of_z fits ∙ ap₂ ◌*ℤ◌ e f)

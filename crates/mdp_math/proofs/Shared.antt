-- Fractions over one denominator: where their numerators over it are in width, so are all terms of their written sum.
use Rattle.std.proofs.Common.{◌≡◌, ℕ, ◌*◌, ◌/◌, ◌<◌, ◌≤◌, ◌^◌, refl, sym, ◌∙◌, ap, ap₂, subst, arith, ℤ, pos, ◌+ℤ◌, ◌*ℤ◌, unsigned_abs, mul_comm, mul-pos, Some}
use Rattle.std.proofs.lemmas.Int.{unsigned_abs-mul}
use Rattle.std.proofs.Math.Nat.{dvd-mul_left, mul-div_cancel', div-mul_cancel, le_of_dvd, le-mul_of_pos_right, le_of_mul-le-mul_right, mul-le-mul_left}
use Rattle.std.specs.Int.{◌∣◌}
use Rattle.mdp_math.specs.{Gcd.{gcd, gcd_is, gcd_comm, gauss, lcm}, Integers.{cancel_pos}, Rational.{ℚ, ratio, ◌+ℚ◌, ◌*ℚ◌, quotient-pos}}
use Rattle.mdp_math.specs.Written.{narrow, narrow_ℚ, across, common_den, written_add, written_mul}
use Rattle.mdp_math.proofs.{IntegerRing.{int_ring}, Laws.{Is, is_self, same_is, is_ratio, is_mul, is_add, is_across, coprime, den-pos}, Lcm.{lcm-least}}
use Rattle.mdp_math.proofs.{Ring.{◌⊕◌, ◌⊗◌, lit, ring₃, ring₄}, Written.{narrow-kept, narrow_ℚ-kept}}

-- ---- x is a/b: its lowest terms are no longer

abs-across : (x : ℚ) (a : ℤ) (b : ℕ) → Is x a b → unsigned_abs x.num * b ≡ unsigned_abs a * x.den
abs-across x a b p = sym (unsigned_abs-mul x.num (pos b)) ∙ ap unsigned_abs p.across ∙ unsigned_abs-mul a (pos x.den)

pub is-den : (x : ℚ) (a : ℤ) (b : ℕ) → Is x a b → x.den ∣ b
is-den x a b p =
    gauss (unsigned_abs x.num) x.den b (coprime x)
    (subst (λ (n : ℕ). x.den ∣ n) (sym (abs-across x a b p) ∙ mul_comm (unsigned_abs x.num) b) (dvd-mul_left x.den (unsigned_abs a)))

is-den_le : (x : ℚ) (a : ℤ) (b : ℕ) → Is x a b → x.den ≤ b
is-den_le x a b p = le_of_dvd p.positive (is-den x a b p)

is-num_le : (x : ℚ) (a : ℤ) (b : ℕ) → Is x a b → unsigned_abs x.num ≤ unsigned_abs a
is-num_le x a b p =
    le_of_mul-le-mul_right (subst (λ (n : ℕ). n ≤ unsigned_abs a * b) (sym (abs-across x a b p)) (mul-le-mul_left (unsigned_abs a) (is-den_le x a b p))) p.positive

pub is-kept : (x : ℚ) (a : ℤ) (b : ℕ) → Is x a b → unsigned_abs a < 2 ^ 127 → b < 2 ^ 127 → narrow_ℚ x ≡ Some x
is-kept x a b p h k = let n = is-num_le x a b p in let d = is-den_le x a b p in narrow_ℚ-kept x (omega (arith, n, h)) (omega (arith, d, k))

-- ---- sums of a/L and b/L

-- x = a/L, for L = (x.den w) j: its numerator times w is a part of a
scaled : (x : ℚ) (a : ℤ) (l w j : ℕ) → Is x a l → x.den * w * j ≡ l → (x.num *ℤ pos w) *ℤ pos j ≡ a
scaled x a l w j p e =
    cancel_pos ((x.num *ℤ pos w) *ℤ pos j) a x.den (den-pos x)
    (ring₄ int_ring (λ n d w j. ((n ⊗ w) ⊗ j) ⊗ d) (λ n d w j. n ⊗ ((d ⊗ w) ⊗ j)) refl x.num (pos x.den) (pos w) (pos j)
    ∙ ap (λ (k : ℕ). x.num *ℤ pos k) e
    ∙ p.across)

pub is-num : (x : ℚ) (a : ℤ) (l : ℕ) → Is x a l → x.num *ℤ pos (l / x.den) ≡ a
is-num x a l p =
    ring₃ int_ring (λ n w j. n ⊗ w) (λ n w j. (n ⊗ w) ⊗ lit (pos 1)) refl x.num (pos (l / x.den)) (pos 1)
    ∙ scaled x a l (l / x.den) 1 p (let e = mul-div_cancel' x.den (is-den x a l p) in omega (arith, e))

-- what is a part of a is no longer
part-le : (n a : ℤ) (j : ℕ) → 0 < j → n *ℤ pos j ≡ a → unsigned_abs n ≤ unsigned_abs a
part-le n a j h e =
    subst (λ (k : ℕ). unsigned_abs n ≤ k) (sym (unsigned_abs-mul n (pos j)) ∙ ap unsigned_abs e) (le-mul_of_pos_right (unsigned_abs n) h)

pub is-add_same : (x y : ℚ) (a b : ℤ) (l : ℕ) → Is x a l → Is y b l → Is (x +ℚ y) (a +ℤ b) l
is-add_same x y a b l p q =
    is_across (x +ℚ y) (a *ℤ pos l +ℤ b *ℤ pos l) (a +ℤ b) (l * l) l (is_add x y a b l l p q) p.positive
    (ring₃ int_ring (λ a b l. (a ⊗ l ⊕ b ⊗ l) ⊗ l) (λ a b l. (a ⊕ b) ⊗ (l ⊗ l)) refl a b (pos l))

module _ (x y : ℚ) (a b : ℤ) (l : ℕ) (p : Is x a l) (q : Is y b l) where
  abbrev common_factor : ℕ
  common_factor = l / lcm x.den y.den

  common-divides : lcm x.den y.den ∣ l
  common-divides = lcm-least x.den y.den l (den-pos y) (is-den x a l p) (is-den y b l q)

  common-times : lcm x.den y.den * common_factor ≡ l
  common-times = mul-div_cancel' (lcm x.den y.den) common-divides

  factor-pos : 0 < common_factor
  factor-pos = quotient-pos l (lcm x.den y.den) p.positive common-divides

  den-times : x.den * (y.den / gcd x.den y.den) ≡ lcm x.den y.den
  den-times =
      let g : ℕ = gcd x.den y.den in
      let u : x.den / g * g ≡ x.den = div-mul_cancel g (gcd_is x.den y.den).0 in
      let v : g * (y.den / g) ≡ y.den = mul-div_cancel' g (gcd_is x.den y.den).1 in
      let s = ap (λ (k : ℕ). k * (y.den / g)) u in
      let t = ap (λ (k : ℕ). x.den / g * k) v in
      omega (arith, s, t)

  across-part : across x y *ℤ pos common_factor ≡ a
  across-part = scaled x a l (y.den / gcd x.den y.den) common_factor p (ap (λ (k : ℕ). k * common_factor) den-times ∙ common-times)

  back-times : y.den * (x.den / gcd y.den x.den) ≡ lcm x.den y.den
  back-times = ap (λ (g : ℕ). y.den * (x.den / g)) (gcd_comm y.den x.den) ∙ mul_comm y.den (x.den / gcd x.den y.den)

  back-part : across y x *ℤ pos common_factor ≡ b
  back-part = scaled y b l (x.den / gcd y.den x.den) common_factor q (ap (λ (k : ℕ). k * common_factor) back-times ∙ common-times)

  sum-part : (across x y +ℤ across y x) *ℤ pos common_factor ≡ a +ℤ b
  sum-part =
      ring₃ int_ring (λ u v j. (u ⊕ v) ⊗ j) (λ u v j. u ⊗ j ⊕ v ⊗ j) refl (across x y) (across y x) (pos common_factor)
      ∙ ap₂ ◌+ℤ◌ across-part back-part

  pub written_add-shared : unsigned_abs a < 2 ^ 127 → unsigned_abs b < 2 ^ 127 → unsigned_abs (a +ℤ b) < 2 ^ 127 → l < 2 ^ 127 → written_add x y ≡ Some (x +ℚ y)
  unfolding written_add
  written_add-shared h k m n =
      let u : unsigned_abs (across x y) ≤ unsigned_abs a = part-le (across x y) a common_factor factor-pos across-part in
      let v : unsigned_abs (across y x) ≤ unsigned_abs b = part-le (across y x) b common_factor factor-pos back-part in
      let w : unsigned_abs (across x y +ℤ across y x) ≤ unsigned_abs (a +ℤ b) = part-le (across x y +ℤ across y x) (a +ℤ b) common_factor factor-pos sum-part in
      let d : lcm x.den y.den ≤ l = le_of_dvd p.positive common-divides in
      let e1 : narrow (across x y) ≡ Some (across x y) = narrow-kept (across x y) (omega (arith, u, h)) in
      let e2 : narrow (across y x) ≡ Some (across y x) = narrow-kept (across y x) (omega (arith, v, k)) in
      let e3 : narrow (across x y +ℤ across y x) ≡ Some (across x y +ℤ across y x) = narrow-kept (across x y +ℤ across y x) (omega (arith, w, m)) in
      let e4 : narrow (common_den x y) ≡ Some (common_den x y) = narrow-kept (common_den x y) (omega (arith, d, n)) in
      let e5 : narrow_ℚ (x +ℚ y) ≡ Some (x +ℚ y) = is-kept (x +ℚ y) (a +ℤ b) l (is-add_same x y a b l p q) m n in
      rw (e1, e2, e3, e4, e5) refl

-- ---- the written operations on numerators

pub written_add-ratios : (a b : ℤ) (l : ℕ) → 0 < l → unsigned_abs a < 2 ^ 127 → unsigned_abs b < 2 ^ 127 → unsigned_abs (a +ℤ b) < 2 ^ 127 → l < 2 ^ 127
    → written_add (ratio a l) (ratio b l) ≡ Some (ratio (a +ℤ b) l)
written_add-ratios a b l p h k m n =
    written_add-shared (ratio a l) (ratio b l) a b l (is_ratio a l p) (is_ratio b l p) h k m n
    ∙ ap Some (same_is (ratio a l +ℚ ratio b l) (ratio (a +ℤ b) l) (a +ℤ b) (a +ℤ b) l l (is-add_same _ _ a b l (is_ratio a l p) (is_ratio b l p)) (is_ratio (a +ℤ b) l p) refl)

pub written_mul-ratios : (a b : ℤ) (d e : ℕ) → 0 < d → 0 < e → unsigned_abs (a *ℤ b) < 2 ^ 127 → d * e < 2 ^ 127
    → written_mul (ratio a d) (ratio b e) ≡ Some (ratio (a *ℤ b) (d * e))
unfolding written_mul
written_mul-ratios a b d e p q h k =
    let s : Is (ratio a d *ℚ ratio b e) (a *ℤ b) (d * e) = is_mul _ _ a b d e (is_ratio a d p) (is_ratio b e q) in
    is-kept (ratio a d *ℚ ratio b e) (a *ℤ b) (d * e) s h k
    ∙ ap Some (same_is (ratio a d *ℚ ratio b e) (ratio (a *ℤ b) (d * e)) (a *ℤ b) (a *ℤ b) (d * e) (d * e) s (is_ratio (a *ℤ b) (d * e) (mul-pos p q)) refl)

-- a number over a multiple of its denominator
pub ratio-multiple : (x : ℚ) (k : ℕ) → 0 < k → ratio (x.num *ℤ pos k) (x.den * k) ≡ x
ratio-multiple x k h =
    same_is (ratio (x.num *ℤ pos k) (x.den * k)) x (x.num *ℤ pos k) x.num (x.den * k) x.den (is_ratio _ _ (mul-pos (den-pos x) h)) (is_self x)
    (ring₃ int_ring (λ n d k. (n ⊗ k) ⊗ d) (λ n d k. n ⊗ (d ⊗ k)) refl x.num (pos x.den) (pos k))

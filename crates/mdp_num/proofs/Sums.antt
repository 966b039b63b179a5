-- A sum over the least common denominator shares with that denominator no more than with the divisor of the two denominators.
use Rattle.std.proofs.Common.{◌≡◌, ℕ, zero, suc, ◌+◌, ◌-◌, ◌*◌, ◌/◌, ◌^◌, ◌<◌, ◌≤◌, arith, sym, int_cmp, unsigned_abs, mul-le-mul_left, Some}
use Rattle.std.proofs.{Common.{◌∙◌, ap, ap₂, subst, refl, ℤ, pos, negsuc, ◌<ℤ◌, ◌+ℤ◌, ◌*ℤ◌, int_div}, lemmas.Nat.Gcd.{dvd_refl, dvd_trans}}
use Rattle.std.proofs.{lemmas.Int.{ints, unsigned_abs-mul}, Math.Nat.{one-dvd, dvd-add, dvd-sub, dvd-mul_left}}
use Rattle.std.specs.Int.{◌∣◌}
use native.Mathlib.Nat.{div-mul_cancel, div-le_self, eq-one_of_dvd-one}
use lib.IntN.{+ℤ_comm, *ℤ_comm}
use Rattle.mdp_math.specs.{Gcd.{gcd, gcd_is, gcd_comm, gcd-reduced, coprime_divisors, coprime-mul_left, div_divides}, Integers.{exact_div, abs_div}}
use Rattle.mdp_math.specs.{Rational.{ℚ, ratio}, Written.{narrow, narrow_ℚ, across, common_den, written_add, written_compare}}
use Rattle.mdp_math.proofs.{IntegerRing.{one-*ℤ}, Laws.{coprime, den-pos}}
use Rattle.mdp_math.proofs.Written.{written_add-by, common_den-pos, narrow-some, narrow_ℚ-kept, signed_self, narrow-kept, cmp_across, written_compare-by}
use Rattle.mdp_num.proofs.{Divisors.{gcd-drop, by_order}, Values.{AreTerms, narrow-positive}}

-- ---- quotients

pub int_div-one : (n d : ℤ) → d ≡ pos 1 → n ≡ int_div n d
int_div-one n d e = sym (ap (int_div n) e ∙ sym (one-*ℤ (int_div n (pos 1))) ∙ *ℤ_comm (pos 1) (int_div n (pos 1)) ∙ exact_div n 1 (one-dvd (unsigned_abs n)))

ratio-num : (n d : ℤ) → pos 0 <ℤ d → int_div n (pos (gcd (unsigned_abs n) (unsigned_abs d))) ≡ ℚ.num (ratio n (unsigned_abs d))
unfolding ratio
ratio-num n (pos zero) h = absurd (omega (arith, ints))
ratio-num n (pos (suc d)) h = refl
ratio-num n (negsuc d) h = absurd (omega (arith, ints))

ratio-den : (n d : ℤ) → pos 0 <ℤ d → int_div d (pos (gcd (unsigned_abs n) (unsigned_abs d))) ≡ pos (ℚ.den (ratio n (unsigned_abs d)))
unfolding ratio
ratio-den n (pos zero) h = absurd (omega (arith, ints))
ratio-den n (pos (suc d)) h = refl
ratio-den n (negsuc d) h = absurd (omega (arith, ints))

quotient-narrow : (n : ℤ) (g : ℕ) → unsigned_abs n < 2 ^ 127 → unsigned_abs (int_div n (pos g)) < 2 ^ 127
quotient-narrow n g h = let e = abs_div n g in let l : unsigned_abs n / g ≤ unsigned_abs n = div-le_self (unsigned_abs n) g in omega (arith, e, l, h)

-- the terms of n/d, by one division of each
pub ratio-terms : (n d N D : ℤ) → pos 0 <ℤ d → unsigned_abs n < 2 ^ 127 → unsigned_abs d < 2 ^ 127
    → N ≡ int_div n (pos (gcd (unsigned_abs n) (unsigned_abs d))) → D ≡ int_div d (pos (gcd (unsigned_abs n) (unsigned_abs d)))
    → AreTerms (ratio n (unsigned_abs d)) N D
ratio-terms n d N D h u v e f = record {
  top = e ∙ ratio-num n d h;
  bottom = f ∙ ratio-den n d h;
  narrow_top = subst (λ (z : ℤ). unsigned_abs z < 2 ^ 127) (sym e) (quotient-narrow n _ u);
  narrow_bottom = subst (λ (z : ℤ). unsigned_abs z < 2 ^ 127) (sym f) (quotient-narrow d _ v);
}

ratio-kept : (n d : ℤ) → pos 0 <ℤ d → unsigned_abs n < 2 ^ 127 → unsigned_abs d < 2 ^ 127 → narrow_ℚ (ratio n (unsigned_abs d)) ≡ Some (ratio n (unsigned_abs d))
ratio-kept n d h u v =
    let t = ratio-terms n d _ _ h u v refl refl in
    narrow_ℚ-kept (ratio n (unsigned_abs d)) (subst (λ (z : ℤ). unsigned_abs z < 2 ^ 127) t.top t.narrow_top) (subst (λ (z : ℤ). unsigned_abs z < 2 ^ 127) t.bottom t.narrow_bottom)

-- ---- what a sum shares with its denominator

divides-left : (k : ℕ) (u v : ℤ) → k ∣ unsigned_abs (u +ℤ v) → k ∣ unsigned_abs v → k ∣ unsigned_abs u
divides-left k (pos a) (pos b) h l = subst (λ (n : ℕ). k ∣ n) (let e : unsigned_abs (pos a +ℤ pos b) - b ≡ a = omega (arith, ints) in e) (dvd-sub k h l)
divides-left k (pos a) (negsuc b) h l = by_order a (suc b)
    (λ q. subst (λ (n : ℕ). k ∣ n) (let e : suc b - unsigned_abs (pos a +ℤ negsuc b) ≡ a = omega (arith, ints) in e) (dvd-sub k l h))
    (λ q. subst (λ (n : ℕ). k ∣ n) (let e : unsigned_abs (pos a +ℤ negsuc b) + suc b ≡ a = omega (arith, ints) in e) (dvd-add k h l))
divides-left k (negsuc a) (pos b) h l = by_order b (suc a)
    (λ q. subst (λ (n : ℕ). k ∣ n) (let e : unsigned_abs (negsuc a +ℤ pos b) + b ≡ suc a = omega (arith, ints) in e) (dvd-add k h l))
    (λ q. subst (λ (n : ℕ). k ∣ n) (let e : b - unsigned_abs (negsuc a +ℤ pos b) ≡ suc a = omega (arith, ints) in e) (dvd-sub k l h))
divides-left k (negsuc a) (negsuc b) h l = subst (λ (n : ℕ). k ∣ n) (let e : unsigned_abs (negsuc a +ℤ negsuc b) - suc b ≡ suc a = omega (arith, ints) in e) (dvd-sub k h l)

coprime-sum : (p : ℕ) (u v : ℤ) → p ∣ unsigned_abs v → gcd (unsigned_abs u) p ≡ 1 → gcd p (unsigned_abs (u +ℤ v)) ≡ 1
coprime-sum p u v h e =
    let k : ℕ = gcd p (unsigned_abs (u +ℤ v)) in
    let d = gcd_is p (unsigned_abs (u +ℤ v)) in
    let l : k ∣ unsigned_abs u = divides-left (gcd p (unsigned_abs (u +ℤ v))) u v d.1 (dvd_trans (gcd p (unsigned_abs (u +ℤ v))) d.0 h) in
    eq-one_of_dvd-one (subst (λ (n : ℕ). gcd p (unsigned_abs (u +ℤ v)) ∣ n) e ((gcd_is (unsigned_abs u) p).2 (gcd p (unsigned_abs (u +ℤ v))) l d.0))

-- a/b + c/d over b = p g and d = q g
shared-by : (a c : ℤ) (p q g : ℕ) → gcd (unsigned_abs a) p ≡ 1 → gcd (unsigned_abs c) q ≡ 1 → gcd p q ≡ 1
    → gcd (unsigned_abs (a *ℤ pos q +ℤ c *ℤ pos p)) (p * (q * g)) ≡ gcd (unsigned_abs (a *ℤ pos q +ℤ c *ℤ pos p)) g
shared-by a c p q g e f o =
    let s : ℕ = unsigned_abs (a *ℤ pos q +ℤ c *ℤ pos p) in
    let left : gcd (unsigned_abs (a *ℤ pos q)) p ≡ 1 = ap (λ (n : ℕ). gcd n p) (unsigned_abs-mul a (pos q)) ∙ coprime-mul_left (unsigned_abs a) q p e (gcd_comm q p ∙ o) in
    let right : gcd (unsigned_abs (c *ℤ pos p)) q ≡ 1 = ap (λ (n : ℕ). gcd n q) (unsigned_abs-mul c (pos p)) ∙ coprime-mul_left (unsigned_abs c) p q f o in
    let through : p ∣ unsigned_abs (c *ℤ pos p) = subst (λ (n : ℕ). p ∣ n) (sym (unsigned_abs-mul c (pos p))) (dvd-mul_left p (unsigned_abs c)) in
    let across : q ∣ unsigned_abs (a *ℤ pos q) = subst (λ (n : ℕ). q ∣ n) (sym (unsigned_abs-mul a (pos q))) (dvd-mul_left q (unsigned_abs a)) in
    let u : gcd p s ≡ 1 = coprime-sum p (a *ℤ pos q) (c *ℤ pos p) through left in
    let v : gcd q s ≡ 1 = ap (λ (z : ℤ). gcd q (unsigned_abs z)) (+ℤ_comm (a *ℤ pos q) (c *ℤ pos p)) ∙ coprime-sum q (c *ℤ pos p) (a *ℤ pos q) across right in
    gcd_comm s (p * (q * g))
    ∙ ap (λ (n : ℕ). gcd n (unsigned_abs (a *ℤ pos q +ℤ c *ℤ pos p))) (let r : p * (q * g) ≡ (p * q) * g = omega arith in r)
    ∙ gcd-drop (p * q) g (unsigned_abs (a *ℤ pos q +ℤ c *ℤ pos p)) (coprime-mul_left p q (unsigned_abs (a *ℤ pos q +ℤ c *ℤ pos p)) u v)
    ∙ gcd_comm g (unsigned_abs (a *ℤ pos q +ℤ c *ℤ pos p))

sum-shared : (x y : ℚ) → gcd (unsigned_abs (across x y +ℤ across y x)) (unsigned_abs (common_den x y)) ≡ gcd (unsigned_abs (across x y +ℤ across y x)) (gcd x.den y.den)
sum-shared x y =
    let g : ℕ = gcd x.den y.den in
    let p : ℕ = x.den / gcd x.den y.den in
    let q : ℕ = y.den / gcd x.den y.den in
    let o = gcd-reduced x.den y.den (den-pos y) in
    let e = coprime_divisors (unsigned_abs x.num) x.den (unsigned_abs x.num) (x.den / gcd x.den y.den) (coprime x) (dvd_refl (unsigned_abs x.num))
    (div_divides x.den (gcd x.den y.den) (gcd_is x.den y.den).0) in
    let f = coprime_divisors (unsigned_abs y.num) y.den (unsigned_abs y.num) (y.den / gcd x.den y.den) (coprime y) (dvd_refl (unsigned_abs y.num))
    (div_divides y.den (gcd x.den y.den) (gcd_is x.den y.den).1) in
    let back : across y x ≡ y.num *ℤ pos (x.den / gcd x.den y.den) = ap (λ (k : ℕ). y.num *ℤ pos (x.den / k)) (gcd_comm y.den x.den) in
    let whole : unsigned_abs (common_den x y) ≡ p * (q * g) = ap (λ (k : ℕ). x.den / gcd x.den y.den * k) (sym (div-mul_cancel (gcd x.den y.den) (gcd_is x.den y.den).1)) in
    ap₂ (λ (z : ℤ) (k : ℕ). gcd (unsigned_abs (across x y +ℤ z)) k) back whole
    ∙ shared-by x.num y.num (x.den / gcd x.den y.den) (y.den / gcd x.den y.den) (gcd x.den y.den) e f o
    ∙ ap (λ (z : ℤ). gcd (unsigned_abs (across x y +ℤ z)) (gcd x.den y.den)) (sym back)

-- ---- from the code's steps

pub sum_is : (x y : ℚ) (l r s : ℤ) → Some l ≡ narrow (across x y) → Some r ≡ narrow (across y x) → Some s ≡ narrow (l +ℤ r) → s ≡ across x y +ℤ across y x
sum_is x y l r s a b c = (narrow-some (l +ℤ r) s c).0 ∙ ap₂ ◌+ℤ◌ (narrow-some (across x y) l a).0 (narrow-some (across y x) r b).0

pub shared_is : (x y : ℚ) (l r s d k : ℤ) → Some l ≡ narrow (across x y) → Some r ≡ narrow (across y x) → Some s ≡ narrow (l +ℤ r) → Some d ≡ narrow (common_den x y) → k ≡ pos (gcd x.den y.den)
    → gcd (unsigned_abs s) (unsigned_abs d) ≡ gcd (unsigned_abs s) (unsigned_abs k)
shared_is x y l r s d k a b c e h =
    let p = sum_is x y l r s a b c in
    ap₂ (λ (m n : ℤ). gcd (unsigned_abs m) (unsigned_abs n)) p (narrow-some (common_den x y) d e).0 ∙ sum-shared x y ∙ ap₂ (λ (m n : ℤ). gcd (unsigned_abs m) (unsigned_abs n)) (sym p) (sym h)

pub narrow_is : (z w : ℤ) → Some w ≡ narrow z → unsigned_abs w < 2 ^ 127
narrow_is z w e = let p = narrow-some z w e in subst (λ (k : ℤ). unsigned_abs k < 2 ^ 127) (sym p.0) p.1

pub common_den-positive : (x y : ℚ) (d : ℤ) → Some d ≡ narrow (common_den x y) → pos 0 <ℤ d
common_den-positive x y d e = narrow-positive (common_den x y) d _ e refl (common_den-pos x y)

pub written_add-lowest : (x y : ℚ) (l r s d : ℤ) → Some l ≡ narrow (across x y) → Some r ≡ narrow (across y x) → Some s ≡ narrow (l +ℤ r) → Some d ≡ narrow (common_den x y)
    → Some (ratio s (unsigned_abs d)) ≡ written_add x y
written_add-lowest x y l r s d a b c e =
    sym (ratio-kept s d (common_den-positive x y d e) (narrow_is (l +ℤ r) s c) (narrow_is (common_den x y) d e))
    ∙ ap (λ (z : ℤ). narrow_ℚ (ratio z (unsigned_abs d))) (sym (signed_self s))
    ∙ written_add-by x y l r s d a b c e

-- ---- an order by whole products

across-narrow : (x y : ℚ) → unsigned_abs (x.num *ℤ pos y.den) < 2 ^ 127 → Some (across x y) ≡ narrow (across x y)
across-narrow x y h =
    let e = unsigned_abs-mul x.num (pos y.den) in
    let f = unsigned_abs-mul x.num (pos (y.den / gcd x.den y.den)) in
    let l : y.den / gcd x.den y.den ≤ y.den = div-le_self y.den (gcd x.den y.den) in
    let m : unsigned_abs x.num * (y.den / gcd x.den y.den) ≤ unsigned_abs x.num * y.den = mul-le-mul_left (unsigned_abs x.num) l in
    sym (narrow-kept (across x y) (omega (arith, e, f, m, h)))

pub written_compare-products : (x y : ℚ) (l r : ℤ) → Some l ≡ narrow (x.num *ℤ pos y.den) → Some r ≡ narrow (y.num *ℤ pos x.den) → Some (int_cmp l r) ≡ written_compare x y
written_compare-products x y l r a b =
    let p = narrow-some (x.num *ℤ pos y.den) l a in
    let q = narrow-some (y.num *ℤ pos x.den) r b in
    ap Some (ap₂ int_cmp p.0 q.0 ∙ sym (cmp_across x y)) ∙ written_compare-by x y _ _ (across-narrow x y p.1) (across-narrow y x q.1)

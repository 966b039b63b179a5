-- What written terms are.
use Rattle.std.proofs.Common.{◌≡◌, ℕ, zero, suc, ◌+◌, ◌*◌, ◌/◌, ◌<◌, ◌≤◌, ◌^◌, Bool, true, false, ◌&&◌, T, ltb→lt, lt-ltb, le-ltb, refl, sym, ◌∙◌, ap, ap₂, subst}
use Rattle.std.proofs.Common.{arith, ℤ, pos, negsuc, ◌+ℤ◌, ◌*ℤ◌, neg_ℤ, unsigned_abs, int_div, int_lt, int_cmp, mul-pos, Option, Some, None, if◌then◌else◌}
use Rattle.std.proofs.{lemmas.Int.{unsigned_abs-mul, by_lt_z}, Common.{Ordering, cond, Less, Equal, Greater, mul-lt-mul_of_pos_right, mul-le-mul_right}}
use Rattle.mdp_math.proofs.{Booleans.{and-false}, IntegerRing.{int_ring}, Ring.{◌⊕◌, ◌⊗◌, ring₃, ring₆}}
use Rattle.mdp_math.proofs.Laws.{Is, is_self, same_is, is_ratio, is_mul, is_add, is_across, lowest_is, coprime, den-pos}
use Rattle.mdp_math.specs.{Gcd.{gcd, gcd_is, gcd_comm, gcd-pos, gcd-reduced, coprime-mul, coprime_divisors, div_divides}, Integers.{exact_div, abs_div}}
use Rattle.mdp_math.specs.Rational.{ℚ, ratio, ◌+ℚ◌, ◌*ℚ◌, quotient-pos}
use Rattle.mdp_math.specs.Written.{in_width, narrow, narrow_ℚ, signed, across, common_den, reduced_num, reduced_den, cmp_ℚ, written_add, written_mul, written_compare, ◌>>=◌}
use borrow.Author.Differences.{up, down, true_is_lt, false_is_lt, lt_out, le_out, product_is as product_is_parts}
use native.Mathlib.Nat.{zero-div, div-mul_cancel}

pub abs-signed : (b : Bool) (n : ℕ) → unsigned_abs (signed b n) ≡ n
abs-signed false n = refl
abs-signed true zero = refl
abs-signed true (suc n) = refl

signed-div : (b : Bool) (n g : ℕ) → int_div (signed b n) (pos g) ≡ signed b (n / g)
signed-div false n g = refl
signed-div true zero g = ap pos (zero-div g) ∙ sym (ap (λ (k : ℕ). neg_ℤ (pos k)) (zero-div g))
signed-div true (suc n) g = refl

pub num-ratio_signed : (b : Bool) (n d : ℕ) → 0 < d → ℚ.num (ratio (signed b n) d) ≡ signed b (n / gcd n d)
unfolding ratio
num-ratio_signed b n zero h = absurd (omega arith)
num-ratio_signed b n (suc d) h = ap (λ (k : ℕ). int_div (signed b n) (pos (gcd k (suc d)))) (abs-signed b n) ∙ signed-div b n (gcd n (suc d))

pub den-ratio_signed : (b : Bool) (n d : ℕ) → 0 < d → ℚ.den (ratio (signed b n) d) ≡ d / gcd n d
unfolding ratio
den-ratio_signed b n zero h = absurd (omega arith)
den-ratio_signed b n (suc d) h = ap (λ (k : ℕ). suc d / gcd k (suc d)) (abs-signed b n)

-- ---- what is in width

pub in_width-true : (z : ℤ) → unsigned_abs z < 2 ^ 127 → in_width z ≡ true
in_width-true z h = lt-ltb (unsigned_abs z) (2 ^ 127) h

pub in_width-false : (z : ℤ) → 2 ^ 127 ≤ unsigned_abs z → in_width z ≡ false
in_width-false z h = le-ltb (unsigned_abs z) (2 ^ 127) h

pub narrow-kept : (z : ℤ) → unsigned_abs z < 2 ^ 127 → narrow z ≡ Some z
unfolding narrow
narrow-kept z h = ap (λ (b : Bool). if b then Some z else None) (in_width-true z h)

pub narrow-past : (z : ℤ) → 2 ^ 127 ≤ unsigned_abs z → narrow z ≡ None
unfolding narrow
narrow-past z h = ap (λ (b : Bool). if b then Some z else None) (in_width-false z h)

pub narrow_ℚ-kept : (x : ℚ) → unsigned_abs x.num < 2 ^ 127 → x.den < 2 ^ 127 → narrow_ℚ x ≡ Some x
unfolding narrow_ℚ
narrow_ℚ-kept x h k = ap₂ (λ (a b : Bool). if a && b then Some x else None) (in_width-true x.num h) (in_width-true (pos x.den) k)

pub narrow_ℚ-past_num : (x : ℚ) → 2 ^ 127 ≤ unsigned_abs x.num → narrow_ℚ x ≡ None
unfolding narrow_ℚ
narrow_ℚ-past_num x h = ap (λ (a : Bool). if a && in_width (pos x.den) then Some x else None) (in_width-false x.num h)

pub narrow_ℚ-past_den : (x : ℚ) → 2 ^ 127 ≤ x.den → narrow_ℚ x ≡ None
unfolding narrow_ℚ
narrow_ℚ-past_den x h = ap (λ (b : Bool). if in_width x.num && b then Some x else None) (in_width-false (pos x.den) h) ∙ ap (λ (c : Bool). if c then Some x else None) (and-false (in_width x.num))

-- what stands in width
some_if : {P : Type 0} → (b : Bool) → (b ≡ true → P) → (z w : ℤ) → Some w ≡ (if b then Some z else None) → (w ≡ z) × P
some_if true h z w e = (cc, h refl)
some_if false h z w e = cc

none_if : (b : Bool) (z : ℤ) → None ≡ (if b then Some z else None) → b ≡ false
none_if true z e = cc
none_if false z e = refl

pub narrow-some : (z w : ℤ) → Some w ≡ narrow z → (w ≡ z) × (unsigned_abs z < 2 ^ 127)
unfolding narrow
narrow-some z w e = some_if (in_width z) (λ t. ltb→lt (unsigned_abs z) (2 ^ 127) (subst T (sym t) tt)) z w e

pub narrow-none : (z : ℤ) → None ≡ narrow z → 2 ^ 127 ≤ unsigned_abs z
unfolding narrow
narrow-none z e = grind (arith, none_if)

-- ---- the terms of a product

abs-reduced_num : (x y : ℚ) → unsigned_abs (reduced_num x y) ≡ unsigned_abs x.num / gcd (unsigned_abs x.num) y.den
abs-reduced_num x y = abs_div x.num (gcd (unsigned_abs x.num) y.den)

product-lowest : (x y : ℚ) → gcd (unsigned_abs (reduced_num x y *ℤ reduced_num y x)) (reduced_den x y * reduced_den y x) ≡ 1
product-lowest x y =
    let a : ℕ = unsigned_abs x.num in
    let b : ℕ = x.den in
    let c : ℕ = unsigned_abs y.num in
    let d : ℕ = y.den in
    let p : ℕ = a / gcd a d in
    let q : ℕ = c / gcd c b in
    let e : unsigned_abs (reduced_num x y *ℤ reduced_num y x) ≡ p * q = unsigned_abs-mul (reduced_num x y) (reduced_num y x) ∙ ap₂ ◌*◌ (abs-reduced_num x y) (abs-reduced_num y x) in
    ap (λ (k : ℕ). gcd k (reduced_den x y * reduced_den y x)) e
    ∙ coprime-mul p q (b / gcd c b) (d / gcd a d)
    (coprime_divisors a b p (b / gcd c b) (coprime x) (div_divides a (gcd a d) (gcd_is a d).0) (div_divides b (gcd c b) (gcd_is c b).1))
    (gcd-reduced a d (den-pos y))
    (gcd-reduced c b (den-pos x))
    (coprime_divisors c d q (d / gcd a d) (coprime y) (div_divides c (gcd c b) (gcd_is c b).0) (div_divides d (gcd a d) (gcd_is a d).1))

reduced_num-times : (x y : ℚ) → reduced_num x y *ℤ pos (gcd (unsigned_abs x.num) y.den) ≡ x.num
reduced_num-times x y = exact_div x.num (gcd (unsigned_abs x.num) y.den) (gcd_is (unsigned_abs x.num) y.den).0

reduced_den-times : (x y : ℚ) → reduced_den x y * gcd (unsigned_abs y.num) x.den ≡ x.den
reduced_den-times x y = div-mul_cancel (gcd (unsigned_abs y.num) x.den) (gcd_is (unsigned_abs y.num) x.den).1

pub product_is : (x y : ℚ) → Is (x *ℚ y) (reduced_num x y *ℤ reduced_num y x) (reduced_den x y * reduced_den y x)
product_is x y =
    let n : ℤ = reduced_num x y in
    let m : ℤ = reduced_num y x in
    let r : ℕ = reduced_den x y in
    let s : ℕ = reduced_den y x in
    let g : ℕ = gcd (unsigned_abs x.num) y.den in
    let h : ℕ = gcd (unsigned_abs y.num) x.den in
    let rp : 0 < r = quotient-pos x.den h (den-pos x) (gcd_is (unsigned_abs y.num) x.den).1 in
    let sp : 0 < s = quotient-pos y.den g (den-pos y) (gcd_is (unsigned_abs x.num) y.den).1 in
    is_across (x *ℚ y) (x.num *ℤ y.num) (n *ℤ m) (x.den * y.den) (r * s) (is_mul _ _ _ _ _ _ (is_self x) (is_self y)) (mul-pos rp sp)
    (ap₂ (λ (k l : ℤ). (k *ℤ l) *ℤ (pos r *ℤ pos s)) (sym (reduced_num-times x y)) (sym (reduced_num-times y x))
    ∙ ring₆ int_ring (λ n m r s g h. ((n ⊗ g) ⊗ (m ⊗ h)) ⊗ (r ⊗ s)) (λ n m r s g h. (n ⊗ m) ⊗ ((r ⊗ h) ⊗ (s ⊗ g))) refl n m (pos r) (pos s) (pos g) (pos h)
    ∙ ap₂ (λ (k l : ℕ). (n *ℤ m) *ℤ (pos k *ℤ pos l)) (reduced_den-times x y) (reduced_den-times y x))

pub num-product : (x y : ℚ) → ℚ.num (x *ℚ y) ≡ reduced_num x y *ℤ reduced_num y x
num-product x y = (lowest_is (x *ℚ y) _ _ (product_is x y) (product-lowest x y)).0

pub den-product : (x y : ℚ) → ℚ.den (x *ℚ y) ≡ reduced_den x y * reduced_den y x
den-product x y = (lowest_is (x *ℚ y) _ _ (product_is x y) (product-lowest x y)).1

-- ---- the terms of a sum and of a comparison

across-times : (x y : ℚ) → across x y *ℤ pos (gcd x.den y.den) ≡ x.num *ℤ pos y.den
across-times x y =
    ring₃ int_ring (λ a d g. (a ⊗ d) ⊗ g) (λ a d g. a ⊗ (d ⊗ g)) refl x.num (pos (y.den / gcd x.den y.den)) (pos (gcd x.den y.den))
    ∙ ap (λ (k : ℕ). x.num *ℤ pos k) (div-mul_cancel (gcd x.den y.den) (gcd_is x.den y.den).1)

across_back-times : (x y : ℚ) → across y x *ℤ pos (gcd x.den y.den) ≡ y.num *ℤ pos x.den
across_back-times x y = ap (λ (k : ℕ). across y x *ℤ pos k) (gcd_comm x.den y.den) ∙ across-times y x

-- the sum over the least common denominator
pub sum_across : (x y : ℚ) (d : ℕ) → pos d ≡ common_den x y → 0 < d → Is (x +ℚ y) (across x y +ℤ across y x) d
sum_across x y d e h =
    let g : ℕ = gcd x.den y.den in
    let b : ℕ = x.den / gcd x.den y.den in
    let bg : b * g ≡ x.den = div-mul_cancel (gcd x.den y.den) (gcd_is x.den y.den).0 in
    is_across (x +ℚ y) (x.num *ℤ pos y.den +ℤ y.num *ℤ pos x.den) (across x y +ℤ across y x) (x.den * y.den) d (is_add _ _ _ _ _ _ (is_self x) (is_self y)) h
    (ap₂ (λ (k l : ℤ). (k +ℤ l) *ℤ pos d) (sym (across-times x y)) (sym (across_back-times x y))
    ∙ ap (λ (k : ℤ). (across x y *ℤ pos g +ℤ across y x *ℤ pos g) *ℤ k) e
    ∙ ring₆ int_ring (λ u v g b d z. (u ⊗ g ⊕ v ⊗ g) ⊗ (b ⊗ d)) (λ u v g b d z. (u ⊕ v) ⊗ ((b ⊗ g) ⊗ d)) refl (across x y) (across y x) (pos g) (pos b) (pos y.den) (pos 0)
    ∙ ap (λ (k : ℕ). (across x y +ℤ across y x) *ℤ (pos k *ℤ pos y.den)) bg)

pub common_den-pos : (x y : ℚ) → 0 < x.den / gcd x.den y.den * y.den
common_den-pos x y = mul-pos (quotient-pos x.den (gcd x.den y.den) (den-pos x) (gcd_is x.den y.den).0) (den-pos y)

-- a positive factor keeps the order
lt_scale : (a b : ℤ) (g : ℕ) → 0 < g → int_lt (a *ℤ pos g) (b *ℤ pos g) ≡ int_lt a b
lt_scale a b g h =
    let p = product_is_parts a (pos g) in
    let q = product_is_parts b (pos g) in
    by_lt_z a b
    (λ l. let m : (up a + down b) * g < (up b + down a) * g = mul-lt-mul_of_pos_right (lt_out a b l) h in sym (true_is_lt (a *ℤ pos g) (b *ℤ pos g) (omega (arith, p, q, m)))
    ∙ true_is_lt a b (lt_out a b l))
    (λ l. let m : (up b + down a) * g ≤ (up a + down b) * g = mul-le-mul_right g (le_out b a l) in sym (false_is_lt (a *ℤ pos g) (b *ℤ pos g) (omega (arith, p, q, m)))
    ∙ false_is_lt a b (le_out b a l))

cmp_scale : (a b : ℤ) (g : ℕ) → 0 < g → int_cmp (a *ℤ pos g) (b *ℤ pos g) ≡ int_cmp a b
cmp_scale a b g h = ap₂ (λ (u v : Bool). cond u Less (cond v Greater Equal)) (lt_scale a b g h) (lt_scale b a g h)

pub cmp_across : (x y : ℚ) → int_cmp (across x y) (across y x) ≡ cmp_ℚ x y
cmp_across x y = sym (cmp_scale (across x y) (across y x) (gcd x.den y.den) (gcd-pos x.den y.den (den-pos y))) ∙ ap₂ int_cmp (across-times x y) (across_back-times x y)

pub signed_self : (z : ℤ) → signed (int_lt z (pos 0)) (unsigned_abs z) ≡ z
signed_self (pos n) = ap (λ (b : Bool). signed b n) (le-ltb n 0 (omega arith))
signed_self (negsuc n) = refl

-- ---- the written operations, step by step

sum_value : (x y : ℚ) (s d : ℤ) → s ≡ across x y +ℤ across y x → d ≡ common_den x y → ratio (signed (int_lt s (pos 0)) (unsigned_abs s)) (unsigned_abs d) ≡ x +ℚ y
sum_value x y s d p q =
    let k : ℕ = x.den / gcd x.den y.den * y.den in
    ap₂ (λ (n : ℤ) (m : ℕ). ratio n m) (signed_self s ∙ p) (ap unsigned_abs q)
    ∙ same_is (ratio (across x y +ℤ across y x) k) (x +ℚ y) _ _ _ _ (is_ratio (across x y +ℤ across y x) k (common_den-pos x y)) (sum_across x y k refl (common_den-pos x y)) refl

pub written_add-by : (x y : ℚ) (l r s d : ℤ) → Some l ≡ narrow (across x y) → Some r ≡ narrow (across y x) → Some s ≡ narrow (l +ℤ r) → Some d ≡ narrow (common_den x y)
    → narrow_ℚ (ratio (signed (int_lt s (pos 0)) (unsigned_abs s)) (unsigned_abs d)) ≡ written_add x y
unfolding written_add
written_add-by x y l r s d a b c e =
    let p : s ≡ across x y +ℤ across y x = (narrow-some (l +ℤ r) s c).0 ∙ ap₂ ◌+ℤ◌ (narrow-some (across x y) l a).0 (narrow-some (across y x) r b).0 in
    ap narrow_ℚ (sum_value x y s d p (narrow-some (common_den x y) d e).0) ∙ rw (← a, ← b, ← c, ← e) refl

pub written_compare-by : (x y : ℚ) (l r : ℤ) → Some l ≡ narrow (across x y) → Some r ≡ narrow (across y x) → Some (int_cmp l r) ≡ written_compare x y
unfolding written_compare
written_compare-by x y l r a b = ap Some (ap₂ int_cmp (narrow-some (across x y) l a).0 (narrow-some (across y x) r b).0 ∙ cmp_across x y) ∙ rw (← a, ← b) refl

pub written_mul-past_num : (x y : ℚ) → None ≡ narrow (reduced_num x y *ℤ reduced_num y x) → None ≡ written_mul x y
unfolding written_mul
written_mul-past_num x y a = sym (narrow_ℚ-past_num (x *ℚ y) (subst (λ (z : ℤ). 2 ^ 127 ≤ unsigned_abs z) (sym (num-product x y)) (narrow-none _ a)))

pub written_mul-past_den : (x y : ℚ) → None ≡ narrow (pos (reduced_den x y) *ℤ pos (reduced_den y x)) → None ≡ written_mul x y
unfolding written_mul
written_mul-past_den x y a = sym (narrow_ℚ-past_den (x *ℚ y) (subst (λ (z : ℕ). 2 ^ 127 ≤ z) (sym (den-product x y)) (narrow-none (pos (reduced_den x y) *ℤ pos (reduced_den y x)) a)))

-- ---- what stands is the exact value

some_ℚ_if : (b : Bool) (x y : ℚ) → Some y ≡ (if b then Some x else None) → y ≡ x
some_ℚ_if true x y e = cc
some_ℚ_if false x y e = cc

pub narrow_ℚ-some : (x y : ℚ) → Some y ≡ narrow_ℚ x → y ≡ x
unfolding narrow_ℚ
narrow_ℚ-some x y e = some_ℚ_if (in_width x.num && in_width (pos x.den)) x y e

pub written_mul-some : (x y r : ℚ) → Some r ≡ written_mul x y → r ≡ x *ℚ y
unfolding written_mul
written_mul-some x y r e = narrow_ℚ-some (x *ℚ y) r e

-- after two steps, or four, that answered, the last one answered
two_steps : (s d : Option ℤ) (o : Option ℚ) (r : ℚ) → Some r ≡ (s >>= λ x. d >>= λ y. o) → Some r ≡ o
two_steps (Some x) (Some y) o r e = e
two_steps (Some x) None o r e = cc
two_steps None d o r e = cc

four_steps : (a b : Option ℤ) (s : ℤ → ℤ → Option ℤ) (d : Option ℤ) (o : Option ℚ) (r : ℚ) → Some r ≡ (a >>= λ l. b >>= λ m. s l m >>= λ x. d >>= λ y. o) → Some r ≡ o
four_steps (Some l) (Some m) s d o r e = two_steps (s l m) d o r e
four_steps (Some l) None s d o r e = cc
four_steps None b s d o r e = cc

pub written_add-some : (x y r : ℚ) → Some r ≡ written_add x y → r ≡ x +ℚ y
unfolding written_add
written_add-some x y r e = narrow_ℚ-some (x +ℚ y) r (four_steps (narrow (across x y)) (narrow (across y x)) (λ l m. narrow (l +ℤ m)) (narrow (common_den x y)) (narrow_ℚ (x +ℚ y)) r e)

after_two : {A : Type 0} → (a b : Option ℤ) (v r : A) → Some r ≡ (a >>= λ l. b >>= λ m. Some v) → r ≡ v
after_two (Some l) (Some m) v r e = cc
after_two (Some l) None v r e = cc
after_two None b v r e = cc

pub written_compare-some : (x y : ℚ) (o : Ordering) → Some o ≡ written_compare x y → o ≡ cmp_ℚ x y
unfolding written_compare
written_compare-some x y o e = after_two (narrow (across x y)) (narrow (across y x)) (cmp_ℚ x y) o e

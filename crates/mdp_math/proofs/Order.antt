-- The order of ℚ, and the reciprocal.
use Rattle.std.proofs.Common.{◌≡◌, ◌≢◌, ℕ, zero, suc, ◌+◌, ◌*◌, ◌<◌, ◌≤◌, ◌⊎◌, inl, inr, refl, sym, Less, Equal, Greater}
use Rattle.std.proofs.{Common.{◌∙◌, ap, subst, arith, ℤ, pos, negsuc, ◌+ℤ◌, ◌*ℤ◌, neg_ℤ, mul-pos, ◌≤ℤ◌, ◌<ℤ◌}, lemmas.Int.{ints, by_lt_z}}
use borrow.Author.Differences.{up, down, same_out, product_is, le_out, lt_out, at_most_in, below_in}
use Rattle.mdp_math.specs.{Written.{cmp_ℚ}, Rational.{ℚ, of_int, ratio, ◌+ℚ◌, ◌*ℚ◌, ◌-ℚ◌, inv_ℚ, flip_int, le_ℚ, lt_ℚ, ◌≤ℚ◌, ◌<ℚ◌}}
use Rattle.mdp_math.proofs.{Ring.{◌⊕◌, ◌⊗◌, ⊖, lit, ring₁, ring₂, ring₃, ring₄}, IntegerRing.{int_ring}}
use Rattle.mdp_math.proofs.Laws.{Is, is_self, is_add, is_mul, is_neg, is_of_int, is_ratio, same_is, same_across, den-pos, rat_ring, one-*ℚ}
use lib.IntN.{zero-*ℤ}
use native.Mathlib.Nat.{le_of_mul-le-mul_right, lt_of_mul-lt-mul_right, mul-le-mul_right, mul-lt-mul_of_pos_right}

-- ---- signs

-- the parts of n and a, where n b = a m
parts : (n a : ℤ) (b m : ℕ) → n *ℤ pos b ≡ a *ℤ pos m → (up n * b + down a * m ≡ up a * m + down n * b)
parts n a b m e = let p = product_is n (pos b) in let q = product_is a (pos m) in let r = same_out _ _ e in omega (arith, p, q, r)

sign_le : (n a : ℤ) (b m : ℕ) → 0 < b → n *ℤ pos b ≡ a *ℤ pos m → pos 0 ≤ℤ a → pos 0 ≤ℤ n
sign_le n a b m h e p =
    let f : down a * m ≤ up a * m = mul-le-mul_right m (omega (arith, le_out _ _ p)) in
    let g : down n * b ≤ up n * b = omega (arith, parts n a b m e) in
    at_most_in _ _ (omega (arith, le_of_mul-le-mul_right g h))

sign_lt : (n a : ℤ) (b m : ℕ) → 0 < b → 0 < m → n *ℤ pos b ≡ a *ℤ pos m → pos 0 <ℤ a → pos 0 <ℤ n
sign_lt n a b m h k e p =
    let l : down a < up a = omega (arith, lt_out _ _ p) in
    let f : down a * m < up a * m = mul-lt-mul_of_pos_right l k in
    let g : down n * b < up n * b = omega (arith, parts n a b m e) in
    below_in _ _ (omega (arith, lt_of_mul-lt-mul_right b g))

-- the order is the sign of the difference
difference : (x y : ℤ) → pos 0 ≤ℤ (y +ℤ neg_ℤ x) → x ≤ℤ y
difference x y h = omega (arith, ints)

difference_back : (x y : ℤ) → x ≤ℤ y → pos 0 ≤ℤ (y +ℤ neg_ℤ x)
difference_back x y h = omega (arith, ints)

difference_lt : (x y : ℤ) → pos 0 <ℤ (y +ℤ neg_ℤ x) → x <ℤ y
difference_lt x y h = omega (arith, ints)

difference_lt_back : (x y : ℤ) → x <ℤ y → pos 0 <ℤ (y +ℤ neg_ℤ x)
difference_lt_back x y h = omega (arith, ints)

pub le_across : (x y : ℚ) → x ≤ℚ y → (x.num *ℤ pos y.den) ≤ℤ (y.num *ℤ pos x.den)
unfolding le_ℚ
le_across x y h = record { le = h.le }

pub across_le : (x y : ℚ) → (x.num *ℤ pos y.den) ≤ℤ (y.num *ℤ pos x.den) → x ≤ℚ y
unfolding le_ℚ
across_le x y h = record { le = h.le }

pub lt_across : (x y : ℚ) → x <ℚ y → (x.num *ℤ pos y.den) <ℤ (y.num *ℤ pos x.den)
unfolding lt_ℚ
lt_across x y h = record { lt = h.lt }

pub across_lt : (x y : ℚ) → (x.num *ℤ pos y.den) <ℤ (y.num *ℤ pos x.den) → x <ℚ y
unfolding lt_ℚ
across_lt x y h = record { lt = h.lt }

-- a number is at least 0 where its numerator is, in any terms
pub sign_of : (x : ℚ) (a : ℤ) (b : ℕ) → Is x a b → pos 0 ≤ℤ a → pos 0 ≤ℤ x.num
sign_of x a b p h = sign_le x.num a b x.den p.positive p.across h

pub sign_to : (x : ℚ) (a : ℤ) (b : ℕ) → Is x a b → pos 0 ≤ℤ x.num → pos 0 ≤ℤ a
sign_to x a b p h = sign_le a x.num x.den b (den-pos x) (sym p.across) h

pub strict_of : (x : ℚ) (a : ℤ) (b : ℕ) → Is x a b → pos 0 <ℤ a → pos 0 <ℤ x.num
strict_of x a b p h = sign_lt x.num a b x.den p.positive (den-pos x) p.across h

pub strict_to : (x : ℚ) (a : ℤ) (b : ℕ) → Is x a b → pos 0 <ℤ x.num → pos 0 <ℤ a
strict_to x a b p h = sign_lt a x.num x.den b (den-pos x) p.positive (sym p.across) h

difference_is : (x y : ℚ) → Is (y -ℚ x) (y.num *ℤ pos x.den +ℤ neg_ℤ x.num *ℤ pos y.den) (y.den * x.den)
difference_is x y = is_add _ _ _ _ _ _ (is_self y) (is_neg _ _ _ (is_self x))

minus_out : (n : ℤ) (d : ℕ) (m : ℤ) → m +ℤ neg_ℤ n *ℤ pos d ≡ m +ℤ neg_ℤ (n *ℤ pos d)
minus_out n d m = ring₃ int_ring (λ n d m. m ⊕ (⊖ n) ⊗ d) (λ n d m. m ⊕ ⊖ (n ⊗ d)) refl n (pos d) m

pub le_of_sign : (x y : ℚ) → pos 0 ≤ℤ ℚ.num (y -ℚ x) → x ≤ℚ y
le_of_sign x y h = across_le x y (difference _ _ (subst (λ (k : ℤ). pos 0 ≤ℤ k) (minus_out x.num y.den _) (sign_to (y -ℚ x) _ _ (difference_is x y) h)))

pub sign_of_le : (x y : ℚ) → x ≤ℚ y → pos 0 ≤ℤ ℚ.num (y -ℚ x)
sign_of_le x y h = sign_of (y -ℚ x) _ _ (difference_is x y) (subst (λ (k : ℤ). pos 0 ≤ℤ k) (sym (minus_out x.num y.den _)) (difference_back _ _ (le_across x y h)))

pub lt_of_sign : (x y : ℚ) → pos 0 <ℤ ℚ.num (y -ℚ x) → x <ℚ y
lt_of_sign x y h = across_lt x y (difference_lt _ _ (subst (λ (k : ℤ). pos 0 <ℤ k) (minus_out x.num y.den _) (strict_to (y -ℚ x) _ _ (difference_is x y) h)))

pub sign_of_lt : (x y : ℚ) → x <ℚ y → pos 0 <ℤ ℚ.num (y -ℚ x)
sign_of_lt x y h = strict_of (y -ℚ x) _ _ (difference_is x y) (subst (λ (k : ℤ). pos 0 <ℤ k) (sym (minus_out x.num y.den _)) (difference_lt_back _ _ (lt_across x y h)))

-- ---- by the sign of a difference

abbrev pub 0ℚ : ℚ
0ℚ = of_int (pos 0)

abbrev pub 1ℚ : ℚ
1ℚ = of_int (pos 1)

minus_zero : (x : ℚ) → x -ℚ 0ℚ ≡ x
minus_zero = ring₁ rat_ring (λ x. x ⊕ ⊖ (lit (pos 0))) (λ x. x) refl

pub nonneg : (x : ℚ) → 0ℚ ≤ℚ x → pos 0 ≤ℤ x.num
nonneg x h = subst (λ (y : ℚ). pos 0 ≤ℤ y.num) (minus_zero x) (sign_of_le 0ℚ x h)

pub is_nonneg : (x : ℚ) → pos 0 ≤ℤ x.num → 0ℚ ≤ℚ x
is_nonneg x h = le_of_sign 0ℚ x (subst (λ (y : ℚ). pos 0 ≤ℤ y.num) (sym (minus_zero x)) h)

pub positive : (x : ℚ) → 0ℚ <ℚ x → pos 0 <ℤ x.num
positive x h = subst (λ (y : ℚ). pos 0 <ℤ y.num) (minus_zero x) (sign_of_lt 0ℚ x h)

pub is_positive : (x : ℚ) → pos 0 <ℤ x.num → 0ℚ <ℚ x
is_positive x h = lt_of_sign 0ℚ x (subst (λ (y : ℚ). pos 0 <ℤ y.num) (sym (minus_zero x)) h)

pub sub-nonneg : (x y : ℚ) → x ≤ℚ y → 0ℚ ≤ℚ (y -ℚ x)
sub-nonneg x y h = is_nonneg (y -ℚ x) (sign_of_le x y h)

pub le_of_sub : (x y : ℚ) → 0ℚ ≤ℚ (y -ℚ x) → x ≤ℚ y
le_of_sub x y h = le_of_sign x y (nonneg (y -ℚ x) h)

pub sub-pos : (x y : ℚ) → x <ℚ y → 0ℚ <ℚ (y -ℚ x)
sub-pos x y h = is_positive (y -ℚ x) (sign_of_lt x y h)

pub lt_of_sub : (x y : ℚ) → 0ℚ <ℚ (y -ℚ x) → x <ℚ y
lt_of_sub x y h = lt_of_sign x y (positive (y -ℚ x) h)

-- y is x and something that is at least 0
pub le_by : (x y e : ℚ) → 0ℚ ≤ℚ e → y -ℚ x ≡ e → x ≤ℚ y
le_by x y e h p = le_of_sub x y (subst (λ (z : ℚ). 0ℚ ≤ℚ z) (sym p) h)

pub lt_by : (x y e : ℚ) → 0ℚ <ℚ e → y -ℚ x ≡ e → x <ℚ y
lt_by x y e h p = lt_of_sub x y (subst (λ (z : ℚ). 0ℚ <ℚ z) (sym p) h)

int_sum : (a c : ℤ) (b d : ℕ) → pos 0 ≤ℤ a → pos 0 ≤ℤ c → pos 0 ≤ℤ (a *ℤ pos d +ℤ c *ℤ pos b)
int_sum (pos n) (pos m) b d h k = omega (arith, ints)
int_sum (negsuc n) c b d h k = absurd h.le
int_sum (pos n) (negsuc m) b d h k = absurd k.le

int_sum_lt : (a c : ℤ) (b d : ℕ) → 0 < d → pos 0 <ℤ a → pos 0 ≤ℤ c → pos 0 <ℤ (a *ℤ pos d +ℤ c *ℤ pos b)
int_sum_lt (pos n) (pos m) b d e h k = let f : 0 < n = omega (arith, ints) in let g : 0 < n * d = mul-pos f e in omega (arith, ints)
int_sum_lt (negsuc n) c b d e h k = absurd h.lt
int_sum_lt (pos n) (negsuc m) b d e h k = absurd k.le

int_product : (a c : ℤ) → pos 0 ≤ℤ a → pos 0 ≤ℤ c → pos 0 ≤ℤ (a *ℤ c)
int_product (pos n) (pos m) h k = omega (arith, ints)
int_product (negsuc n) c h k = absurd h.le
int_product (pos n) (negsuc m) h k = absurd k.le

int_product_lt : (a c : ℤ) → pos 0 <ℤ a → pos 0 <ℤ c → pos 0 <ℤ (a *ℤ c)
int_product_lt (pos n) (pos m) h k = let f : 0 < n = omega (arith, ints) in let g : 0 < m = omega (arith, ints) in let p : 0 < n * m = mul-pos f g in omega (arith, ints)
int_product_lt (negsuc n) c h k = absurd h.lt
int_product_lt (pos n) (negsuc m) h k = absurd k.lt

pub add-nonneg : (x y : ℚ) → 0ℚ ≤ℚ x → 0ℚ ≤ℚ y → 0ℚ ≤ℚ (x +ℚ y)
add-nonneg x y h k = is_nonneg (x +ℚ y) (sign_of (x +ℚ y) _ _ (is_add _ _ _ _ _ _ (is_self x) (is_self y)) (int_sum x.num y.num x.den y.den (nonneg x h) (nonneg y k)))

pub mul-nonneg : (x y : ℚ) → 0ℚ ≤ℚ x → 0ℚ ≤ℚ y → 0ℚ ≤ℚ (x *ℚ y)
mul-nonneg x y h k = is_nonneg (x *ℚ y) (sign_of (x *ℚ y) _ _ (is_mul _ _ _ _ _ _ (is_self x) (is_self y)) (int_product x.num y.num (nonneg x h) (nonneg y k)))

pub add-pos-nonneg : (x y : ℚ) → 0ℚ <ℚ x → 0ℚ ≤ℚ y → 0ℚ <ℚ (x +ℚ y)
add-pos-nonneg x y h k = is_positive (x +ℚ y) (strict_of (x +ℚ y) _ _ (is_add _ _ _ _ _ _ (is_self x) (is_self y)) (int_sum_lt x.num y.num x.den y.den (den-pos y) (positive x h) (nonneg y k)))

pub mul-pos_ℚ : (x y : ℚ) → 0ℚ <ℚ x → 0ℚ <ℚ y → 0ℚ <ℚ (x *ℚ y)
mul-pos_ℚ x y h k = is_positive (x *ℚ y) (strict_of (x *ℚ y) _ _ (is_mul _ _ _ _ _ _ (is_self x) (is_self y)) (int_product_lt x.num y.num (positive x h) (positive y k)))

-- ---- the order

pub ≤ℚ_refl : (x : ℚ) → x ≤ℚ x
≤ℚ_refl x = across_le x x (omega (arith, ints))

pub ≤ℚ_of_eq : (x y : ℚ) → x ≡ y → x ≤ℚ y
≤ℚ_of_eq x y e = subst (λ (z : ℚ). x ≤ℚ z) e (≤ℚ_refl x)

pub ≤ℚ_antisymm : (x y : ℚ) → x ≤ℚ y → y ≤ℚ x → x ≡ y
≤ℚ_antisymm x y h k = same_across x y (let p = le_across x y h in let q = le_across y x k in omega (arith, ints))

pub ≤ℚ_trans : (x y z : ℚ) → x ≤ℚ y → y ≤ℚ z → x ≤ℚ z
≤ℚ_trans x y z h k = le_by x z ((y -ℚ x) +ℚ (z -ℚ y)) (add-nonneg _ _ (sub-nonneg x y h) (sub-nonneg y z k)) (ring₃ rat_ring (λ x y z. z ⊕ ⊖ x) (λ x y z. (y ⊕ ⊖ x) ⊕ (z ⊕ ⊖ y)) refl x y z)

pub <ℚ-≤ℚ_trans : (x y z : ℚ) → x <ℚ y → y ≤ℚ z → x <ℚ z
<ℚ-≤ℚ_trans x y z h k = lt_by x z ((y -ℚ x) +ℚ (z -ℚ y)) (add-pos-nonneg _ _ (sub-pos x y h) (sub-nonneg y z k))
    (ring₃ rat_ring (λ x y z. z ⊕ ⊖ x) (λ x y z. (y ⊕ ⊖ x) ⊕ (z ⊕ ⊖ y)) refl x y z)

pub ≤ℚ-<ℚ_trans : (x y z : ℚ) → x ≤ℚ y → y <ℚ z → x <ℚ z
≤ℚ-<ℚ_trans x y z h k = lt_by x z ((z -ℚ y) +ℚ (y -ℚ x)) (add-pos-nonneg _ _ (sub-pos y z k) (sub-nonneg x y h))
    (ring₃ rat_ring (λ x y z. z ⊕ ⊖ x) (λ x y z. (z ⊕ ⊖ y) ⊕ (y ⊕ ⊖ x)) refl x y z)

pub ≤ℚ_of_lt : (x y : ℚ) → x <ℚ y → x ≤ℚ y
≤ℚ_of_lt x y h = across_le x y (let p = lt_across x y h in omega (arith, ints))

pub <ℚ_irrefl : (x : ℚ) → x <ℚ x → ⊥
<ℚ_irrefl x h = let p = lt_across x x h in omega (arith, ints)

pub ≤ℚ_or_gt : (x y : ℚ) → (x ≤ℚ y) ⊎ (y <ℚ x)
≤ℚ_or_gt x y = by_lt_z (y.num *ℤ pos x.den) (x.num *ℤ pos y.den) (λ h. inr (across_lt y x h)) (λ h. inl (across_le x y h))

pub clash_ℚ : (x y : ℚ) → x <ℚ y → y ≤ℚ x → ⊥
clash_ℚ x y h k = <ℚ_irrefl x (<ℚ-≤ℚ_trans x y x h k)

pub <ℚ_trans : (x y z : ℚ) → x <ℚ y → y <ℚ z → x <ℚ z
<ℚ_trans x y z h k = <ℚ-≤ℚ_trans x y z h (≤ℚ_of_lt y z k)

pub lt_or_eq_ℚ : (x y : ℚ) → x ≤ℚ y → (x <ℚ y) ⊎ (x ≡ y)
lt_or_eq_ℚ x y h = elim (≤ℚ_or_gt y x) as (λ _. (x <ℚ y) ⊎ (x ≡ y)) [ inl k ↦ inr (≤ℚ_antisymm x y h k) | inr k ↦ inl k ]

-- ---- monotone

pub add-le-add_ℚ : (a b c d : ℚ) → a ≤ℚ b → c ≤ℚ d → (a +ℚ c) ≤ℚ (b +ℚ d)
add-le-add_ℚ a b c d h k = le_by (a +ℚ c) (b +ℚ d) ((b -ℚ a) +ℚ (d -ℚ c)) (add-nonneg _ _ (sub-nonneg a b h) (sub-nonneg c d k))
    (ring₄ rat_ring (λ a b c d. (b ⊕ d) ⊕ ⊖ (a ⊕ c)) (λ a b c d. (b ⊕ ⊖ a) ⊕ (d ⊕ ⊖ c)) refl a b c d)

pub mul-le-mul_left_ℚ : (p a b : ℚ) → 0ℚ ≤ℚ p → a ≤ℚ b → (p *ℚ a) ≤ℚ (p *ℚ b)
mul-le-mul_left_ℚ p a b h k = le_by (p *ℚ a) (p *ℚ b) (p *ℚ (b -ℚ a)) (mul-nonneg _ _ h (sub-nonneg a b k)) (ring₃ rat_ring (λ p a b. p ⊗ b ⊕ ⊖ (p ⊗ a)) (λ p a b. p ⊗ (b ⊕ ⊖ a)) refl p a b)

pub mul-lt-mul_left_ℚ : (p a b : ℚ) → 0ℚ <ℚ p → a <ℚ b → (p *ℚ a) <ℚ (p *ℚ b)
mul-lt-mul_left_ℚ p a b h k = lt_by (p *ℚ a) (p *ℚ b) (p *ℚ (b -ℚ a)) (mul-pos_ℚ _ _ h (sub-pos a b k)) (ring₃ rat_ring (λ p a b. p ⊗ b ⊕ ⊖ (p ⊗ a)) (λ p a b. p ⊗ (b ⊕ ⊖ a)) refl p a b)

pub le_of_mul_left_ℚ : (p a b : ℚ) → 0ℚ <ℚ p → (p *ℚ a) ≤ℚ (p *ℚ b) → a ≤ℚ b
le_of_mul_left_ℚ p a b h k = elim (≤ℚ_or_gt a b) as (λ _. a ≤ℚ b) [ inl q ↦ q | inr q ↦ absurd (clash_ℚ _ _ (mul-lt-mul_left_ℚ p b a h q) k) ]

-- ---- the reciprocal

is_flip : (n : ℤ) (d : ℕ) → 0 < d → n ≢ pos 0 → (x : ℚ) → Is x n d → x *ℚ flip_int n d ≡ 1ℚ
is_flip (pos zero) d h k x p = absurd (k refl)
is_flip (pos (suc n)) d h k x p = same_is (x *ℚ ratio (pos d) (suc n)) 1ℚ _ _ _ _ (is_mul _ _ _ _ _ _ p (is_ratio (pos d) (suc n) (omega arith))) (is_of_int (pos 1))
    (ring₂ int_ring (λ a b. (a ⊗ b) ⊗ lit (pos 1)) (λ a b. lit (pos 1) ⊗ (b ⊗ a)) refl (pos (suc n)) (pos d))
is_flip (negsuc n) d h k x p = same_is (x *ℚ ratio (neg_ℤ (pos d)) (suc n)) 1ℚ _ _ _ _ (is_mul _ _ _ _ _ _ p (is_ratio (neg_ℤ (pos d)) (suc n) (omega arith))) (is_of_int (pos 1))
    (ring₂ int_ring (λ a b. ((⊖ a) ⊗ (⊖ b)) ⊗ lit (pos 1)) (λ a b. lit (pos 1) ⊗ (b ⊗ a)) refl (pos (suc n)) (pos d))

num-zero : (x : ℚ) → x.num ≡ pos 0 → x ≡ 0ℚ
num-zero x e = same_is x 0ℚ _ _ _ _ (is_self x) (is_of_int (pos 0)) (ap (λ (k : ℤ). k *ℤ pos 1) e ∙ sym (zero-*ℤ (pos x.den)))

pub mul-inv : (x : ℚ) → x ≢ 0ℚ → x *ℚ inv_ℚ x ≡ 1ℚ
unfolding inv_ℚ
mul-inv x h = is_flip x.num x.den (den-pos x) (λ e. h (num-zero x e)) x (is_self x)

pub ne-zero_of_pos : (x : ℚ) → 0ℚ <ℚ x → x ≢ 0ℚ
ne-zero_of_pos x h e = <ℚ_irrefl 0ℚ (subst (λ (z : ℚ). 0ℚ <ℚ z) e h)

infixl 7 ◌/ℚ◌
abbrev pub ◌/ℚ◌ : ℚ → ℚ → ℚ
x /ℚ y = x *ℚ inv_ℚ y

-- p a = p b, and p is not 0
pub mul-left_cancel_ℚ : (p a b : ℚ) → p ≢ 0ℚ → p *ℚ a ≡ p *ℚ b → a ≡ b
mul-left_cancel_ℚ p a b h e =
    let i : p *ℚ inv_ℚ p ≡ 1ℚ = mul-inv p h in
    sym (one-*ℚ a) ∙ ap (λ (u : ℚ). u *ℚ a) (sym i)
    ∙ ring₃ rat_ring (λ p a i. (p ⊗ i) ⊗ a) (λ p a i. i ⊗ (p ⊗ a)) refl p a (inv_ℚ p)
    ∙ ap (λ (u : ℚ). inv_ℚ p *ℚ u) e
    ∙ ring₃ rat_ring (λ p b i. i ⊗ (p ⊗ b)) (λ p b i. (p ⊗ i) ⊗ b) refl p b (inv_ℚ p)
    ∙ ap (λ (u : ℚ). u *ℚ b) i ∙ one-*ℚ b

-- ---- the order across any terms

across_shape : (a c : ℤ) (b d : ℕ) → pos 0 ≤ℤ (c *ℤ pos b +ℤ neg_ℤ a *ℤ pos d) → (a *ℤ pos d) ≤ℤ (c *ℤ pos b)
across_shape a c b d h = difference _ _ (subst (λ (k : ℤ). pos 0 ≤ℤ k) (minus_out a d (c *ℤ pos b)) h)

pub le_of_is : (x y : ℚ) (a c : ℤ) (b d : ℕ) → Is x a b → Is y c d → (a *ℤ pos d) ≤ℤ (c *ℤ pos b) → x ≤ℚ y
le_of_is x y a c b d p q h = le_of_sign x y
    (sign_of (y -ℚ x) _ _ (is_add _ _ _ _ _ _ q (is_neg _ _ _ p)) (subst (λ (k : ℤ). pos 0 ≤ℤ k) (sym (minus_out a d (c *ℤ pos b))) (difference_back _ _ h)))

pub is_le : (x y : ℚ) (a c : ℤ) (b d : ℕ) → Is x a b → Is y c d → x ≤ℚ y → (a *ℤ pos d) ≤ℤ (c *ℤ pos b)
is_le x y a c b d p q h = across_shape a c b d (sign_to (y -ℚ x) _ _ (is_add _ _ _ _ _ _ q (is_neg _ _ _ p)) (sign_of_le x y h))

-- fractions with whole terms
pub ratio-le : (m n b d : ℕ) → 0 < b → 0 < d → m * d ≤ n * b → ratio (pos m) b ≤ℚ ratio (pos n) d
ratio-le m n b d h k e = le_of_is _ _ (pos m) (pos n) b d (is_ratio (pos m) b h) (is_ratio (pos n) d k) (omega (arith, ints))

pub le-ratio : (m n b d : ℕ) → 0 < b → 0 < d → ratio (pos m) b ≤ℚ ratio (pos n) d → m * d ≤ n * b
le-ratio m n b d h k e = let p = is_le _ _ (pos m) (pos n) b d (is_ratio (pos m) b h) (is_ratio (pos n) d k) e in omega (arith, ints)

pub ratio-nonneg : (m b : ℕ) → 0 < b → 0ℚ ≤ℚ ratio (pos m) b
ratio-nonneg m b h = le_of_is 0ℚ _ (pos 0) (pos m) 1 b (is_of_int (pos 0)) (is_ratio (pos m) b h) (omega (arith, ints))

pub of_int-le : (m n : ℤ) → m ≤ℤ n → of_int m ≤ℚ of_int n
of_int-le m n h = le_of_is _ _ m n 1 1 (is_of_int m) (is_of_int n) (omega (arith, ints))

pub ratio-add_same : (m n b : ℕ) → 0 < b → ratio (pos m) b +ℚ ratio (pos n) b ≡ ratio (pos (m + n)) b
ratio-add_same m n b h = same_is _ _ _ _ _ _ (is_add _ _ _ _ _ _ (is_ratio (pos m) b h) (is_ratio (pos n) b h)) (is_ratio (pos (m + n)) b h)
    (ring₃ int_ring (λ m n b. (m ⊗ b ⊕ n ⊗ b) ⊗ b) (λ m n b. (m ⊕ n) ⊗ (b ⊗ b)) refl (pos m) (pos n) (pos b))

pub ratio-mul : (m n b d : ℕ) → 0 < b → 0 < d → ratio (pos m) b *ℚ ratio (pos n) d ≡ ratio (pos (m * n)) (b * d)
ratio-mul m n b d h k = same_is _ _ _ _ _ _ (is_mul _ _ _ _ _ _ (is_ratio (pos m) b h) (is_ratio (pos n) d k)) (is_ratio (pos (m * n)) (b * d) (mul-pos h k)) refl

-- x / y in ℚ, by terms
pub div-of_int : (a : ℤ) (b : ℕ) → 0 < b → ratio a b *ℚ of_int (pos b) ≡ of_int a
div-of_int a b h = same_is _ _ _ _ _ _ (is_mul _ _ _ _ _ _ (is_ratio a b h) (is_of_int (pos b))) (is_of_int a)
    (ring₂ int_ring (λ a b. (a ⊗ b) ⊗ lit (pos 1)) (λ a b. a ⊗ (b ⊗ lit (pos 1))) refl a (pos b))

-- ---- what a comparison answers

pub lt_of_cmp : (x y : ℚ) → cmp_ℚ x y ≡ Less → x <ℚ y
lt_of_cmp x y e = across_lt x y (grind (arith, ints))

pub eq_of_cmp : (x y : ℚ) → cmp_ℚ x y ≡ Equal → x ≡ y
eq_of_cmp x y e = same_across x y (grind (arith, ints))

pub gt_of_cmp : (x y : ℚ) → cmp_ℚ x y ≡ Greater → y <ℚ x
gt_of_cmp x y e = across_lt y x (grind (arith, ints))

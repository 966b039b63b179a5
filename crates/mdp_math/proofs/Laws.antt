-- The laws of ℚ.
use Rattle.std.proofs.Common.{◌≡◌, ℕ, zero, suc, ◌*◌, ◌/◌, ◌<◌, T, eqb, ltb, eqb→eq, ltb→lt, lt→ltb, refl, sym, ◌∙◌, ap, ap₂, subst, arith, ℤ, pos, negsuc, ◌+ℤ◌}
use Rattle.std.proofs.{Common.{◌*ℤ◌, neg_ℤ, unsigned_abs, int_div, mul-pos, mul_comm}, lemmas.Int.{unsigned_abs-mul}}
use mathlib.Core.HLevel.{is_prop→PathP}
use lib.Dec.{T_prop}
use Rattle.std.specs.Int.{◌∣◌}
use Rattle.mdp_math.specs.{Gcd.{gcd, gcd_is, gauss}, Integers.{exact_div, cancel_pos}}
use Rattle.mdp_math.specs.Rational.{ℚ, is_lowest, of_int, ratio, ◌+ℚ◌, ◌*ℚ◌, neg_ℚ, T_and, T_and_left, T_and_right}
use Rattle.mdp_math.proofs.{IntegerRing.{int_ring}, Ring.{CommRing, ◌⊕◌, ◌⊗◌, ⊖, lit, ring₂, ring₃, ring₄, ring₆}}
use native.Mathlib.Nat.{dvd_antisymm, dvd-mul_left, div-mul_cancel}

pub den-pos : (x : ℚ) → 0 < x.den
den-pos x = ltb→lt 0 x.den (T_and_left (ltb 0 x.den) (eqb (gcd (unsigned_abs x.num) x.den) 1) x.lowest)

pub coprime : (x : ℚ) → gcd (unsigned_abs x.num) x.den ≡ 1
coprime x = eqb→eq (gcd (unsigned_abs x.num) x.den) 1 (T_and_right (ltb 0 x.den) (eqb (gcd (unsigned_abs x.num) x.den) 1) x.lowest)

-- the same terms, the same number
pub same_terms : (x y : ℚ) → x.num ≡ y.num → x.den ≡ y.den → x ≡ y
same_terms x y p q = λ i. record { num = p i; den = q i; lowest = is_prop→PathP (λ j. T (is_lowest (p j) (q j))) (λ j. T_prop (is_lowest (p j) (q j))) x.lowest y.lowest i }

den-divides : (x y : ℚ) → unsigned_abs x.num * y.den ≡ unsigned_abs y.num * x.den → x.den ∣ y.den
den-divides x y e = gauss (unsigned_abs x.num) x.den y.den (coprime x) (subst (λ (n : ℕ). x.den ∣ n) (sym e ∙ mul_comm (unsigned_abs x.num) y.den) (dvd-mul_left x.den (unsigned_abs y.num)))

-- equal products across, the same number
pub same_across : (x y : ℚ) → x.num *ℤ pos y.den ≡ y.num *ℤ pos x.den → x ≡ y
same_across x y e =
    let f : unsigned_abs x.num * y.den ≡ unsigned_abs y.num * x.den = sym (unsigned_abs-mul x.num (pos y.den)) ∙ ap unsigned_abs e ∙ unsigned_abs-mul y.num (pos x.den) in
    let d : x.den ≡ y.den = dvd_antisymm (den-divides x y f) (den-divides y x (sym f)) in
    let g : x.num *ℤ pos y.den ≡ y.num *ℤ pos y.den = e ∙ ap (λ (n : ℕ). y.num *ℤ pos n) d in
    same_terms x y (cancel_pos x.num y.num y.den (den-pos y) g) d

-- x is a/b
pub record Is (x : ℚ) (a : ℤ) (b : ℕ) : Type 0 where
  pub positive : 0 < b
  pub across : x.num *ℤ pos b ≡ a *ℤ pos x.den

pub is_self : (x : ℚ) → Is x x.num x.den
is_self x = record { positive = den-pos x; across = refl }

pub is_ratio : (a : ℤ) (b : ℕ) → 0 < b → Is (ratio a b) a b
unfolding ratio
is_ratio a zero h = absurd (omega arith)
is_ratio a (suc d) h =
    let g : ℕ = gcd (unsigned_abs a) (suc d) in
    let p : int_div a (pos g) *ℤ pos g ≡ a = exact_div a g (gcd_is (unsigned_abs a) (suc d)).0 in
    let q : suc d / g * g ≡ suc d = div-mul_cancel g (gcd_is (unsigned_abs a) (suc d)).1 in
    let n : ℤ = int_div a (pos g) in
    let m : ℕ = suc d / g in
    record {
      positive = h;
      across = ap (λ (k : ℕ). n *ℤ pos k) (sym q) ∙ ring₃ int_ring (λ x y z. x ⊗ (y ⊗ z)) (λ x y z. (x ⊗ z) ⊗ y) refl n (pos m) (pos g) ∙ ap (λ (k : ℤ). k *ℤ pos m) p;
    }

pub is_of_int : (a : ℤ) → Is (of_int a) a 1
unfolding of_int
is_of_int a = record { positive = omega arith; across = refl }

-- two numbers, from what they are
pub same_is : (x y : ℚ) (a c : ℤ) (b d : ℕ) → Is x a b → Is y c d → a *ℤ pos d ≡ c *ℤ pos b → x ≡ y
same_is x y a c b d p q e =
    same_across x y (cancel_pos (x.num *ℤ pos y.den) (y.num *ℤ pos x.den) (b * d) (mul-pos p.positive q.positive)
    (ring₄ int_ring (λ n y b d. (n ⊗ y) ⊗ (b ⊗ d)) (λ n y b d. (n ⊗ b) ⊗ (y ⊗ d)) refl x.num (pos y.den) (pos b) (pos d)
    ∙ ap (λ (k : ℤ). k *ℤ (pos y.den *ℤ pos d)) p.across
    ∙ ring₄ int_ring (λ a x y d. (a ⊗ x) ⊗ (y ⊗ d)) (λ a x y d. (a ⊗ d) ⊗ (x ⊗ y)) refl a (pos x.den) (pos y.den) (pos d)
    ∙ ap (λ (k : ℤ). k *ℤ (pos x.den *ℤ pos y.den)) e
    ∙ ring₄ int_ring (λ c b x y. (c ⊗ b) ⊗ (x ⊗ y)) (λ c b x y. (c ⊗ y) ⊗ (x ⊗ b)) refl c (pos b) (pos x.den) (pos y.den)
    ∙ ap (λ (k : ℤ). k *ℤ (pos x.den *ℤ pos b)) (sym q.across)
    ∙ ring₄ int_ring (λ n d x b. (n ⊗ d) ⊗ (x ⊗ b)) (λ n d x b. (n ⊗ x) ⊗ (b ⊗ d)) refl y.num (pos d) (pos x.den) (pos b)))

-- what x is, up to a common factor
pub is_across : (x : ℚ) (a c : ℤ) (b d : ℕ) → Is x a b → 0 < d → a *ℤ pos d ≡ c *ℤ pos b → Is x c d
is_across x a c b d p h e = record {
  positive = h;
  across = cancel_pos (x.num *ℤ pos d) (c *ℤ pos x.den) b p.positive
      (ring₃ int_ring (λ n d b. (n ⊗ d) ⊗ b) (λ n d b. (n ⊗ b) ⊗ d) refl x.num (pos d) (pos b)
      ∙ ap (λ (k : ℤ). k *ℤ pos d) p.across
      ∙ ring₃ int_ring (λ a x d. (a ⊗ x) ⊗ d) (λ a x d. (a ⊗ d) ⊗ x) refl a (pos x.den) (pos d)
      ∙ ap (λ (k : ℤ). k *ℤ pos x.den) e
      ∙ ring₃ int_ring (λ c b x. (c ⊗ b) ⊗ x) (λ c b x. (c ⊗ x) ⊗ b) refl c (pos b) (pos x.den));
}

-- ---- what the operations are

pub is_add : (x y : ℚ) (a c : ℤ) (b d : ℕ) → Is x a b → Is y c d → Is (x +ℚ y) (a *ℤ pos d +ℤ c *ℤ pos b) (b * d)
unfolding ◌+ℚ◌
is_add x y a c b d p q =
    let s : Is (x +ℚ y) (x.num *ℤ pos y.den +ℤ y.num *ℤ pos x.den) (x.den * y.den) = is_ratio _ _ (mul-pos (den-pos x) (den-pos y)) in
    is_across (x +ℚ y) (x.num *ℤ pos y.den +ℤ y.num *ℤ pos x.den) (a *ℤ pos d +ℤ c *ℤ pos b) (x.den * y.den) (b * d) s (mul-pos p.positive q.positive)
    (ring₆ int_ring (λ n m x y b d. (n ⊗ y ⊕ m ⊗ x) ⊗ (b ⊗ d)) (λ n m x y b d. (n ⊗ b) ⊗ (y ⊗ d) ⊕ (m ⊗ d) ⊗ (x ⊗ b)) refl x.num y.num (pos x.den) (pos y.den) (pos b) (pos d)
    ∙ ap₂ (λ (k l : ℤ). k *ℤ (pos y.den *ℤ pos d) +ℤ l *ℤ (pos x.den *ℤ pos b)) p.across q.across
    ∙ ring₆ int_ring (λ a c x y b d. (a ⊗ x) ⊗ (y ⊗ d) ⊕ (c ⊗ y) ⊗ (x ⊗ b)) (λ a c x y b d. (a ⊗ d ⊕ c ⊗ b) ⊗ (x ⊗ y)) refl a c (pos x.den) (pos y.den) (pos b) (pos d))

pub is_mul : (x y : ℚ) (a c : ℤ) (b d : ℕ) → Is x a b → Is y c d → Is (x *ℚ y) (a *ℤ c) (b * d)
unfolding ◌*ℚ◌
is_mul x y a c b d p q =
    let s : Is (x *ℚ y) (x.num *ℤ y.num) (x.den * y.den) = is_ratio _ _ (mul-pos (den-pos x) (den-pos y)) in
    is_across (x *ℚ y) (x.num *ℤ y.num) (a *ℤ c) (x.den * y.den) (b * d) s (mul-pos p.positive q.positive)
    (ring₄ int_ring (λ n m b d. (n ⊗ m) ⊗ (b ⊗ d)) (λ n m b d. (n ⊗ b) ⊗ (m ⊗ d)) refl x.num y.num (pos b) (pos d)
    ∙ ap₂ ◌*ℤ◌ p.across q.across
    ∙ ring₄ int_ring (λ a c x y. (a ⊗ x) ⊗ (c ⊗ y)) (λ a c x y. (a ⊗ c) ⊗ (x ⊗ y)) refl a c (pos x.den) (pos y.den))

pub is_neg : (x : ℚ) (a : ℤ) (b : ℕ) → Is x a b → Is (neg_ℚ x) (neg_ℤ a) b
unfolding neg_ℚ
is_neg x a b p =
    let s : Is (neg_ℚ x) (neg_ℤ x.num) x.den = is_ratio _ _ (den-pos x) in
    is_across (neg_ℚ x) (neg_ℤ x.num) (neg_ℤ a) x.den b s p.positive
    (ring₂ int_ring (λ n b. (⊖ n) ⊗ b) (λ n b. ⊖ (n ⊗ b)) refl x.num (pos b)
    ∙ ap neg_ℤ p.across
    ∙ ring₂ int_ring (λ a x. ⊖ (a ⊗ x)) (λ a x. (⊖ a) ⊗ x) refl a (pos x.den))

-- ---- the ring

pub +ℚ_assoc : (x y z : ℚ) → (x +ℚ y) +ℚ z ≡ x +ℚ (y +ℚ z)
+ℚ_assoc x y z = same_is ((x +ℚ y) +ℚ z) (x +ℚ (y +ℚ z)) _ _ _ _
    (is_add _ _ _ _ _ _ (is_add _ _ _ _ _ _ (is_self x) (is_self y)) (is_self z))
    (is_add _ _ _ _ _ _ (is_self x) (is_add _ _ _ _ _ _ (is_self y) (is_self z)))
    (ring₆ int_ring (λ a c e b d f. ((a ⊗ d ⊕ c ⊗ b) ⊗ f ⊕ e ⊗ (b ⊗ d)) ⊗ (b ⊗ (d ⊗ f)))
    (λ a c e b d f. (a ⊗ (d ⊗ f) ⊕ (c ⊗ f ⊕ e ⊗ d) ⊗ b) ⊗ ((b ⊗ d) ⊗ f)) refl x.num y.num z.num
    (pos x.den) (pos y.den) (pos z.den))

pub +ℚ_comm : (x y : ℚ) → x +ℚ y ≡ y +ℚ x
+ℚ_comm x y = same_is (x +ℚ y) (y +ℚ x) _ _ _ _ (is_add _ _ _ _ _ _ (is_self x) (is_self y)) (is_add _ _ _ _ _ _ (is_self y) (is_self x))
    (ring₄ int_ring (λ a c b d. (a ⊗ d ⊕ c ⊗ b) ⊗ (d ⊗ b)) (λ a c b d. (c ⊗ b ⊕ a ⊗ d) ⊗ (b ⊗ d)) refl x.num y.num (pos x.den) (pos y.den))

pub *ℚ_assoc : (x y z : ℚ) → (x *ℚ y) *ℚ z ≡ x *ℚ (y *ℚ z)
*ℚ_assoc x y z = same_is ((x *ℚ y) *ℚ z) (x *ℚ (y *ℚ z)) _ _ _ _
    (is_mul _ _ _ _ _ _ (is_mul _ _ _ _ _ _ (is_self x) (is_self y)) (is_self z))
    (is_mul _ _ _ _ _ _ (is_self x) (is_mul _ _ _ _ _ _ (is_self y) (is_self z)))
    (ring₆ int_ring (λ a c e b d f. ((a ⊗ c) ⊗ e) ⊗ (b ⊗ (d ⊗ f))) (λ a c e b d f. (a ⊗ (c ⊗ e)) ⊗ ((b ⊗ d) ⊗ f)) refl x.num y.num z.num (pos x.den) (pos y.den) (pos z.den))

pub *ℚ_comm : (x y : ℚ) → x *ℚ y ≡ y *ℚ x
*ℚ_comm x y = same_is (x *ℚ y) (y *ℚ x) _ _ _ _ (is_mul _ _ _ _ _ _ (is_self x) (is_self y)) (is_mul _ _ _ _ _ _ (is_self y) (is_self x))
    (ring₄ int_ring (λ a c b d. (a ⊗ c) ⊗ (d ⊗ b)) (λ a c b d. (c ⊗ a) ⊗ (b ⊗ d)) refl x.num y.num (pos x.den) (pos y.den))

pub *ℚ-+ℚ : (x y z : ℚ) → x *ℚ (y +ℚ z) ≡ x *ℚ y +ℚ x *ℚ z
*ℚ-+ℚ x y z = same_is (x *ℚ (y +ℚ z)) (x *ℚ y +ℚ x *ℚ z) _ _ _ _
    (is_mul _ _ _ _ _ _ (is_self x) (is_add _ _ _ _ _ _ (is_self y) (is_self z)))
    (is_add _ _ _ _ _ _ (is_mul _ _ _ _ _ _ (is_self x) (is_self y)) (is_mul _ _ _ _ _ _ (is_self x) (is_self z)))
    (ring₆ int_ring (λ a c e b d f. (a ⊗ (c ⊗ f ⊕ e ⊗ d)) ⊗ ((b ⊗ d) ⊗ (b ⊗ f))) (λ a c e b d f. ((a ⊗ c) ⊗ (b ⊗ f) ⊕ (a ⊗ e) ⊗ (b ⊗ d)) ⊗ (b ⊗ (d ⊗ f))) refl x.num y.num z.num
    (pos x.den) (pos y.den) (pos z.den))

pub zero-+ℚ : (x : ℚ) → of_int (pos 0) +ℚ x ≡ x
zero-+ℚ x = same_is (of_int (pos 0) +ℚ x) x _ _ _ _ (is_add _ _ _ _ _ _ (is_of_int (pos 0)) (is_self x)) (is_self x)
    (ring₂ int_ring (λ a b. (lit (pos 0) ⊗ b ⊕ a ⊗ lit (pos 1)) ⊗ b) (λ a b. a ⊗ (lit (pos 1) ⊗ b)) refl x.num (pos x.den))

pub zero-*ℚ : (x : ℚ) → of_int (pos 0) *ℚ x ≡ of_int (pos 0)
zero-*ℚ x = same_is (of_int (pos 0) *ℚ x) (of_int (pos 0)) _ _ _ _ (is_mul _ _ _ _ _ _ (is_of_int (pos 0)) (is_self x)) (is_of_int (pos 0))
    (ring₂ int_ring (λ a b. (lit (pos 0) ⊗ a) ⊗ lit (pos 1)) (λ a b. lit (pos 0) ⊗ (lit (pos 1) ⊗ b)) refl x.num (pos x.den))

pub one-*ℚ : (x : ℚ) → of_int (pos 1) *ℚ x ≡ x
one-*ℚ x = same_is (of_int (pos 1) *ℚ x) x _ _ _ _ (is_mul _ _ _ _ _ _ (is_of_int (pos 1)) (is_self x)) (is_self x)
    (ring₂ int_ring (λ a b. (lit (pos 1) ⊗ a) ⊗ b) (λ a b. a ⊗ (lit (pos 1) ⊗ b)) refl x.num (pos x.den))

pub minus-*ℚ : (x : ℚ) → neg_ℚ x ≡ of_int (negsuc 0) *ℚ x
minus-*ℚ x = same_is (neg_ℚ x) (of_int (negsuc 0) *ℚ x) _ _ _ _ (is_neg _ _ _ (is_self x)) (is_mul _ _ _ _ _ _ (is_of_int (negsuc 0)) (is_self x))
    (ring₂ int_ring (λ a b. (⊖ a) ⊗ (lit (pos 1) ⊗ b)) (λ a b. (lit (negsuc 0) ⊗ a) ⊗ b) refl x.num (pos x.den))

pub of_int-+ℤ : (a b : ℤ) → of_int (a +ℤ b) ≡ of_int a +ℚ of_int b
of_int-+ℤ a b = same_is (of_int (a +ℤ b)) (of_int a +ℚ of_int b) _ _ _ _ (is_of_int (a +ℤ b)) (is_add _ _ _ _ _ _ (is_of_int a) (is_of_int b))
    (ring₂ int_ring (λ a b. (a ⊕ b) ⊗ lit (pos 1)) (λ a b. (a ⊗ lit (pos 1) ⊕ b ⊗ lit (pos 1)) ⊗ lit (pos 1)) refl a b)

pub of_int-*ℤ : (a b : ℤ) → of_int (a *ℤ b) ≡ of_int a *ℚ of_int b
of_int-*ℤ a b = same_is (of_int (a *ℤ b)) (of_int a *ℚ of_int b) _ _ _ _ (is_of_int (a *ℤ b)) (is_mul _ _ _ _ _ _ (is_of_int a) (is_of_int b))
    (ring₂ int_ring (λ a b. (a ⊗ b) ⊗ lit (pos 1)) (λ a b. (a ⊗ b) ⊗ lit (pos 1)) refl a b)

abbrev pub rat_ring : CommRing
rat_ring = record {
  El = ℚ;
  add = ◌+ℚ◌;
  mul = ◌*ℚ◌;
  neg = neg_ℚ;
  int = of_int;
  add_assoc = +ℚ_assoc;
  add_comm = +ℚ_comm;
  mul_assoc = *ℚ_assoc;
  mul_comm = *ℚ_comm;
  mul-add = *ℚ-+ℚ;
  zero-add = zero-+ℚ;
  zero-mul = zero-*ℚ;
  one-mul = one-*ℚ;
  neg_is = minus-*ℚ;
  int_add = of_int-+ℤ;
  int_mul = of_int-*ℤ;
}

-- ---- lowest terms are the number's own

pub lowest_is : (x : ℚ) (n : ℤ) (d : ℕ) → Is x n d → gcd (unsigned_abs n) d ≡ 1 → (x.num ≡ n) × (x.den ≡ d)
lowest_is x n d p one =
    let y : ℚ = record { num = n; den = d; lowest = T_and (ltb 0 d) (eqb (gcd (unsigned_abs n) d) 1) (lt→ltb 0 d p.positive) (subst (λ (k : ℕ). T (eqb k 1)) (sym one) tt) } in
    let e : x ≡ y = same_across x y p.across in
    (ap (λ (z : ℚ). z.num) e, ap (λ (z : ℚ). z.den) e)

pub num-ratio : (n : ℤ) (d : ℕ) → 0 < d → gcd (unsigned_abs n) d ≡ 1 → ℚ.num (ratio n d) ≡ n
num-ratio n d h e = (lowest_is (ratio n d) n d (is_ratio n d h) e).0

pub den-ratio : (n : ℤ) (d : ℕ) → 0 < d → gcd (unsigned_abs n) d ≡ 1 → ℚ.den (ratio n d) ≡ d
den-ratio n d h e = (lowest_is (ratio n d) n d (is_ratio n d h) e).1

pub ratio_self : (x : ℚ) → ratio x.num x.den ≡ x
ratio_self x = same_is (ratio x.num x.den) x _ _ _ _ (is_ratio x.num x.den (den-pos x)) (is_self x) refl

abs-neg : (z : ℤ) → unsigned_abs (neg_ℤ z) ≡ unsigned_abs z
abs-neg (pos zero) = refl
abs-neg (pos (suc n)) = refl
abs-neg (negsuc n) = refl

neg_terms : (x : ℚ) → (ℚ.num (neg_ℚ x) ≡ neg_ℤ x.num) × (ℚ.den (neg_ℚ x) ≡ x.den)
neg_terms x = lowest_is (neg_ℚ x) (neg_ℤ x.num) x.den (is_neg x x.num x.den (is_self x)) (ap (λ (k : ℕ). gcd k x.den) (abs-neg x.num) ∙ coprime x)

pub num-neg : (x : ℚ) → ℚ.num (neg_ℚ x) ≡ neg_ℤ x.num
num-neg x = (neg_terms x).0

pub den-neg : (x : ℚ) → ℚ.den (neg_ℚ x) ≡ x.den
den-neg x = (neg_terms x).1

pub num-of_int : (n : ℤ) → ℚ.num (of_int n) ≡ n
unfolding of_int
num-of_int n = refl

pub den-of_int : (n : ℤ) → ℚ.den (of_int n) ≡ 1
unfolding of_int
den-of_int n = refl

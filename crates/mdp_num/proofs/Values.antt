-- What the value of a fraction is.
use Rattle.std.proofs.Common.{◌≡◌, ℕ, ◌/◌, ◌<◌, ◌≤◌, ◌^◌, ◌-◌, Bool, false, ◌⊎◌, inl, inr, sym, ◌∙◌, ap, to_z, of_z, to_z-of_z}
use Rattle.std.proofs.Common.{ap₂, subst, arith, ℤ, pos, ◌<ℤ◌, ◌*ℤ◌, int_div, unsigned_abs, List, [], ◌∷◌, Some, None}
use Rattle.std.proofs.{lemmas.Int.{ints, fits_signed_from_abs}, Common.{append_assoc, decimal, ◌++◌, eqb, eq-eqb, ne_eqb, if◌then◌else◌}}
use mir.Syntax.{w128}
use lib.Signed.{mag}
use Rattle.mdp_math.specs.{Gcd.{gcd, gcd-reduced, gcd-pos}, Rational.{ℚ, ratio, ◌*ℚ◌}, Written.{narrow, narrow_ℚ, signed, reduced_num, reduced_den}}
use Rattle.mdp_math.proofs.Laws.{ratio_self, num-ratio, den-ratio, den-pos, coprime, same_terms}
use Rattle.mdp_math.proofs.Written.{narrow-some, num-product, den-product, narrow_ℚ-kept, narrow_ℚ-past_num, narrow_ℚ-past_den, num-ratio_signed, den-ratio_signed, abs-signed}
use Rattle.mdp_num.specs.{declared.frac.Frac.TheInside.{Inside}, Inside.{value_of, IsFrac, abs-pos, pos-abs}, Value.{spelling, IsNarrow}}
use Rattle.std.specs.Fmt.{signed_decimal}

pub num-value : (f : Inside) (i : IsFrac f) → ℚ.num (value_of f) ≡ f.num
unfolding value_of
num-value f i = num-ratio f.num (unsigned_abs f.den) (abs-pos f.den i.positive) i.lowest

pub den-value : (f : Inside) (i : IsFrac f) → ℚ.den (value_of f) ≡ unsigned_abs f.den
unfolding value_of
den-value f i = den-ratio f.num (unsigned_abs f.den) (abs-pos f.den i.positive) i.lowest

pub pos-den-value : (f : Inside) (i : IsFrac f) → pos (ℚ.den (value_of f)) ≡ f.den
pos-den-value f i = ap pos (den-value f i) ∙ pos-abs f.den i.positive

-- a fraction of these terms has this value
pub value_from_terms : (f : Inside) (x : ℚ) → f.num ≡ x.num → f.den ≡ pos x.den → value_of f ≡ x
unfolding value_of
value_from_terms f x p q = ap₂ (λ (n d : ℤ). ratio n (unsigned_abs d)) p q ∙ ratio_self x

-- a fraction that stands is the one that is written
pub written_kept : (f : Inside) (x : ℚ) → f.num ≡ x.num → f.den ≡ pos x.den → unsigned_abs f.num < 2 ^ 127 → unsigned_abs f.den < 2 ^ 127 → Some (value_of f) ≡ narrow_ℚ x
written_kept f x p q u v =
    let h : unsigned_abs x.num < 2 ^ 127 = subst (λ (z : ℤ). unsigned_abs z < 2 ^ 127) p u in
    let k : x.den < 2 ^ 127 = subst (λ (z : ℤ). unsigned_abs z < 2 ^ 127) q v in
    ap Some (value_from_terms f x p q) ∙ sym (narrow_ℚ-kept x h k)

-- ---- from bits and back

pub back-num : (f : Inside) (i : IsFrac f) → to_z w128 (of_z w128 f.num) ≡ f.num
back-num f i = to_z-of_z (fits_signed_from_abs w128 f.num i.narrow_num)

pub back-den : (f : Inside) (i : IsFrac f) → to_z w128 (of_z w128 f.den) ≡ f.den
back-den f i = to_z-of_z (fits_signed_from_abs w128 f.den i.narrow_den)

-- a fraction of terms n and d has the value n/d
pub value_of_terms : (f : Inside) (n : ℤ) (d : ℕ) → f.num ≡ n → f.den ≡ pos d → value_of f ≡ ratio n d
unfolding value_of
value_of_terms f n d p q = ap₂ (λ (x y : ℤ). ratio x (unsigned_abs y)) p q

-- ---- n/d with its sign, divided by the greatest common divisor g

pub quotient-pos : (n d g : ℕ) → 0 < d → g ≡ gcd n d → 0 < d / g
quotient-pos n d g h e = let p : 0 < ℚ.den (ratio (signed false n) d) = den-pos (ratio (signed false n) d) in let q : ℚ.den (ratio (signed false n) d) ≡ d / g =
    den-ratio_signed false n d h ∙ ap (λ (k : ℕ). d / k) (sym e) in omega arith

pub quotients-lowest : (n d g : ℕ) → 0 < d → g ≡ gcd n d → gcd (n / g) (d / g) ≡ 1
quotients-lowest n d g h e = ap (λ (k : ℕ). gcd (n / k) (d / k)) e ∙ gcd-reduced n d h

num-reduced : (b : Bool) (n d g : ℕ) → 0 < d → g ≡ gcd n d → ℚ.num (ratio (signed b n) d) ≡ signed b (n / g)
num-reduced b n d g h e = num-ratio_signed b n d h ∙ ap (λ (k : ℕ). signed b (n / k)) (sym e)

den-reduced : (b : Bool) (n d g : ℕ) → 0 < d → g ≡ gcd n d → ℚ.den (ratio (signed b n) d) ≡ d / g
den-reduced b n d g h e = den-ratio_signed b n d h ∙ ap (λ (k : ℕ). d / k) (sym e)

-- division of both terms keeps the value
pub ratio_reduced : (b : Bool) (n d g : ℕ) → 0 < d → g ≡ gcd n d → ratio (signed b (n / g)) (d / g) ≡ ratio (signed b n) d
ratio_reduced b n d g h e =
    let p = quotient-pos n d g h e in
    let one : gcd (unsigned_abs (signed b (n / g))) (d / g) ≡ 1 = ap (λ (k : ℕ). gcd k (d / g)) (abs-signed b (n / g)) ∙ quotients-lowest n d g h e in
    same_terms (ratio (signed b (n / g)) (d / g)) (ratio (signed b n) d)
    (num-ratio (signed b (n / g)) (d / g) p one ∙ sym (num-reduced b n d g h e))
    (den-ratio (signed b (n / g)) (d / g) p one ∙ sym (den-reduced b n d g h e))

pub reduced-kept : (b : Bool) (n d g : ℕ) → 0 < d → g ≡ gcd n d → n / g ≤ 2 ^ 127 - 1 → d / g ≤ 2 ^ 127 - 1 → Some (ratio (signed b (n / g)) (d / g)) ≡ narrow_ℚ (ratio (signed b n) d)
reduced-kept b n d g h e p q =
    let top : unsigned_abs (ℚ.num (ratio (signed b n) d)) ≡ n / g = ap unsigned_abs (num-reduced b n d g h e) ∙ abs-signed b (n / g) in
    ap Some (ratio_reduced b n d g h e) ∙ sym (narrow_ℚ-kept (ratio (signed b n) d) (omega (arith, top)) (omega (arith, den-reduced b n d g h e)))

pub reduced-past : (b : Bool) (n d g : ℕ) → 0 < d → g ≡ gcd n d → (2 ^ 127 - 1 < n / g) ⊎ (2 ^ 127 - 1 < d / g) → None ≡ narrow_ℚ (ratio (signed b n) d)
reduced-past b n d g h e k =
    let top : unsigned_abs (ℚ.num (ratio (signed b n) d)) ≡ n / g = ap unsigned_abs (num-reduced b n d g h e) ∙ abs-signed b (n / g) in
    let bottom = den-reduced b n d g h e in
    elim k as (λ _. None ≡ narrow_ℚ (ratio (signed b n) d)) [
      | inl u ↦ sym (narrow_ℚ-past_num (ratio (signed b n) d) (omega (arith, top)))
      | inr u ↦ sym
          (narrow_ℚ-past_den (ratio (signed b n) d) (omega (arith, bottom)))
    ]

pub num-bits : (f : Inside) (x : ℚ) → value_of f ≡ x → IsFrac f → to_z w128 (of_z w128 f.num) ≡ x.num
num-bits f x e i = back-num f i ∙ sym (num-value f i) ∙ ap (λ (z : ℚ). z.num) e

pub den-bits : (f : Inside) (x : ℚ) → value_of f ≡ x → IsFrac f → to_z w128 (of_z w128 f.den) ≡ pos x.den
den-bits f x e i = back-den f i ∙ sym (pos-den-value f i) ∙ ap (λ (z : ℚ). pos z.den) e

-- a result of the type, from its bits
pub result-bits : (z : ℤ) → mag z < 2 ^ 127 → to_z w128 (of_z w128 z) ≡ z
result-bits z h = to_z-of_z {w = w128} (record { sfits = h })

-- a number that is read without its sign
pub whole-bits : (z : ℤ) (d n : ℕ) → mag z < 2 ^ 127 → z ≡ pos d → n ≡ unsigned_abs (to_z w128 (of_z w128 z)) → n ≡ d
whole-bits z d n h e f = f ∙ ap unsigned_abs (result-bits z h ∙ e)

-- a common divisor is positive
pub divisor-positive : (a b : ℕ) (z : ℤ) → 0 < b → z ≡ pos (gcd a b) → pos 0 <ℤ z
divisor-positive a b z h e = subst (λ (k : ℤ). pos 0 <ℤ k) (sym e) (let p : 0 < gcd a b = gcd-pos a b h in omega (arith, ints))

-- a quotient by a common divisor, from bits
pub divisor-bits : (a b : ℤ) (m n : ℤ) (r : ℤ) → a ≡ m → b ≡ n → mag r < 2 ^ 127 → r ≡ pos (gcd (unsigned_abs a) (unsigned_abs b))
    → to_z w128 (of_z w128 r) ≡ pos (gcd (unsigned_abs m) (unsigned_abs n))
divisor-bits a b m n r p q h e = result-bits r h ∙ e ∙ ap₂ (λ (x y : ℤ). pos (gcd (unsigned_abs x) (unsigned_abs y))) p q

pub quotient-bits : (a m d k r : ℤ) → a ≡ m → d ≡ k → mag r < 2 ^ 127 → r ≡ int_div a d → to_z w128 (of_z w128 r) ≡ int_div m k
quotient-bits a m d k r p q h e = result-bits r h ∙ e ∙ ap₂ int_div p q

-- a term in width, from its bits
pub narrow-bits : (z l : ℤ) → Some l ≡ narrow z → to_z w128 (of_z w128 l) ≡ l
narrow-bits z l e = let p = narrow-some z l e in to_z-of_z (fits_signed_from_abs w128 l (subst (λ (k : ℤ). unsigned_abs k < 2 ^ 127) (sym p.0) p.1))

pub narrow-positive : (z l : ℤ) (n : ℕ) → Some l ≡ narrow z → z ≡ pos n → 0 < n → pos 0 <ℤ l
narrow-positive z l n e p h = subst (λ (k : ℤ). pos 0 <ℤ k) (sym ((narrow-some z l e).0 ∙ p)) (omega (arith, ints))

-- N and D are the terms of x, both in width
pub record AreTerms (x : ℚ) (N D : ℤ) : Type 0 where
  pub top : N ≡ x.num
  pub bottom : D ≡ pos x.den
  pub narrow_top : unsigned_abs N < 2 ^ 127
  pub narrow_bottom : unsigned_abs D < 2 ^ 127

pub terms-positive : (x : ℚ) (N D : ℤ) → AreTerms x N D → pos 0 <ℤ D
terms-positive x N D h = subst (λ (z : ℤ). pos 0 <ℤ z) (sym h.bottom) (let p = den-pos x in omega (arith, ints))

pub terms-lowest : (x : ℚ) (N D : ℤ) → AreTerms x N D → gcd (unsigned_abs N) (unsigned_abs D) ≡ 1
terms-lowest x N D h = ap₂ gcd (ap unsigned_abs h.top) (ap unsigned_abs h.bottom) ∙ coprime x

-- a product's terms, from the code's
pub product-terms : (x y : ℚ) (n d a b r s : ℤ) → Some n ≡ narrow (a *ℤ b) → Some d ≡ narrow (r *ℤ s) → a ≡ reduced_num x y → b ≡ reduced_num y x
    → r ≡ pos (reduced_den x y) → s ≡ pos (reduced_den y x)
    → AreTerms (x *ℚ y) (to_z w128 (of_z w128 n)) (to_z w128 (of_z w128 d))
product-terms x y n d a b r s e f pa pb pr ps =
    let p = narrow-some (a *ℤ b) n e in
    let q = narrow-some (r *ℤ s) d f in
    let u : unsigned_abs (to_z w128 (of_z w128 n)) < 2 ^ 127 = subst (λ (z : ℤ). unsigned_abs z < 2 ^ 127) (sym (narrow-bits _ n e ∙ p.0)) p.1 in
    let v : unsigned_abs (to_z w128 (of_z w128 d)) < 2 ^ 127 = subst (λ (z : ℤ). unsigned_abs z < 2 ^ 127) (sym (narrow-bits _ d f ∙ q.0)) q.1 in
    record {
      top = narrow-bits _ n e ∙ p.0 ∙ ap₂ ◌*ℤ◌ pa pb ∙ sym (num-product x y);
      bottom = narrow-bits _ d f ∙ q.0 ∙ ap₂ ◌*ℤ◌ pr ps ∙ ap pos (sym (den-product x y));
      narrow_top = u;
      narrow_bottom = v;
    }

-- ---- the spelling, from the bits that the code prints

eqb_false : (d : ℕ) → (d ≡ 1 → ⊥) → eqb d 1 ≡ false
eqb_false d h = ne_eqb d 1 h

pub spelling_whole : (f : Inside) (x : ℚ) → value_of f ≡ x → IsFrac f → of_z w128 f.den ≡ 1 → signed_decimal (to_z w128 (of_z w128 f.num)) ≡ spelling x
unfolding spelling
spelling_whole f x v i e =
    let d : x.den ≡ 1 = ap unsigned_abs (sym (den-bits f x v i) ∙ ap (to_z w128) e) in
    ap signed_decimal (num-bits f x v i)
    ∙ sym (ap (λ (b : Bool). if b then signed_decimal x.num else (signed_decimal x.num ++ 47 ∷ decimal x.den)) (eq-eqb x.den 1 d))

pub spelling_fraction : (f : Inside) (x : ℚ) → value_of f ≡ x → IsFrac f → (of_z w128 f.den ≡ 1 → ⊥)
    → signed_decimal (to_z w128 (of_z w128 f.num)) ++ 47 ∷ signed_decimal (to_z w128 (of_z w128 f.den)) ≡ spelling x
unfolding spelling
spelling_fraction f x v i ne =
    ap₂ (λ (n d : ℤ). signed_decimal n ++ 47 ∷ signed_decimal d) (num-bits f x v i) (den-bits f x v i)
    ∙ sym (ap (λ (b : Bool). if b then signed_decimal x.num else (signed_decimal x.num ++ 47 ∷ decimal x.den))
    (eqb_false x.den (λ d. ne (ap (of_z w128) (sym (pos-den-value f i) ∙ ap (λ (z : ℚ). pos z.den) v ∙ ap pos d)))))

pub joined : (a n d n' d' t : List ℕ) → n ≡ n' → d ≡ d' → n' ++ 47 ∷ d' ≡ t → ((a ++ n) ++ 47 ∷ []) ++ d ≡ a ++ t
joined a n d n' d' t p q e = ap₂ (λ (x y : List ℕ). ((a ++ x) ++ 47 ∷ []) ++ y) p q ∙ simp append_assoc (ap (λ (x : List ℕ). a ++ x) e)

-- what stands in a fraction is in width
pub narrow_value : (f : Inside) (x : ℚ) → value_of f ≡ x → IsFrac f → IsNarrow x
narrow_value f x e i = record {
  top = subst (λ (z : ℤ). unsigned_abs z < 2 ^ 127) (sym (num-value f i) ∙ ap (λ (z : ℚ). z.num) e) i.narrow_num;
  bottom = subst (λ (z : ℕ). z < 2 ^ 127) (sym (den-value f i) ∙ ap (λ (z : ℚ). z.den) e) i.narrow_den;
}

-- What comes near to what.
use Rattle.std.proofs.Common.{◌≡◌, ◌∙◌, ℕ, ◌+◌, ◌/◌, ◌<◌, ◌≤◌, ◌^◌, max, true, not, inl, inr, List, [], ◌∷◌, Option, Some, None, refl, sym, ap, ap₂, subst, subst₂, length, get_or, IsSome, arith, ℤ, pos, negsuc, unsigned_abs}
use borrow.Author.Count.{below_more}
use Rattle.std.proofs.{lemmas.List.{get_or_default}, lemmas.Int.{ints, fits_signed_from_abs}, Math.Nat.{one-le-pow, pow-le-pow_right, mul-le-mul_left, div-mul-le_self, max-eq_left, max-eq_right}}
use mir.Syntax.{w128}
use Rattle.std.specs.{Prelude.{FitsSigned}, Bool.{◌==◌}, Ordering.{ordering_index}, declared.cmp.Ordering.{Ordering}, declared.cmp.Ordering.TheVariants.{Less, Equal, Greater}}
use Rattle.mdp_math.specs.{Rational.{ℚ, of_int, ratio, neg_ℚ, ◌-ℚ◌, ◌*ℚ◌, ◌≤ℚ◌}, Written.{cmp_ℚ, narrow_ℚ}}
use Rattle.mdp_math.proofs.{Extremes.{greatest-ge}, Laws.{is_self, is_neg, is_mul, is_of_int, is_ratio, same_is}, Linear.{linear, known}, Ring.{◌⊕◌, ◌⊗◌, ⊖, lit, ring}, IntegerRing.{int_ring}, Numbers.{le_or}}
use Rattle.mdp_math.proofs.Order.{0ℚ, 1ℚ, ≤ℚ_trans, ≤ℚ_of_eq, ≤ℚ_of_lt, eq_of_cmp, lt_of_cmp, le_of_is, ratio-le, ratio-nonneg, mul-le-mul_left_ℚ, mul-nonneg}
use Rattle.mdp_math.proofs.{Whole.{one-pos}, Written.{written_add-some, narrow_ℚ-some}}
use Rattle.mdp_num.specs.{Written.{written_sub}, Value.{quotient}}
use Rattle.mdp_spec.specs.{Mdp.{Mdp, states_of, value_at}, Bounds.{reward_at}}
use Rattle.mdp_search_bounds.specs.{Gap.{whole_scale}, Near.{scale_of, IsNear, IsRewardNear, IsValueNear, AreNear, AreRewardsNear, AreValuesNear}}

pub le_of_order : (x y : ℚ) (o : Ordering) → o ≡ cmp_ℚ x y → not (ordering_index o == 2) ≡ true → x ≤ℚ y
le_of_order x y Less e t = ≤ℚ_of_lt x y (lt_of_cmp x y (sym e))
le_of_order x y Equal e t = ≤ℚ_of_eq x y (eq_of_cmp x y (sym e))
le_of_order x y Greater e t = cc

-- ---- the scale

one-scale : (x : ℚ) → 1ℚ ≤ℚ scale_of x
one-scale x = greatest-ge (1ℚ ∷ x ∷ neg_ℚ x ∷ []) 0 1ℚ (omega arith)

self-scale : (x : ℚ) → x ≤ℚ scale_of x
self-scale x = greatest-ge (1ℚ ∷ x ∷ neg_ℚ x ∷ []) 1 1ℚ (omega arith)

neg-scale : (x : ℚ) → neg_ℚ x ≤ℚ scale_of x
neg-scale x = greatest-ge (1ℚ ∷ x ∷ neg_ℚ x ∷ []) 2 1ℚ (omega arith)

scale-nonneg : (x : ℚ) → 0ℚ ≤ℚ scale_of x
scale-nonneg x = ≤ℚ_trans 0ℚ 1ℚ (scale_of x) (≤ℚ_of_lt 0ℚ 1ℚ one-pos) (one-scale x)

whole_part-scale : (x : ℚ) (n : ℤ) → x.num ≡ n → of_int (pos (unsigned_abs x.num / x.den)) ≤ℚ scale_of x
whole_part-scale x (pos n) e =
    let h = div-mul-le_self (unsigned_abs x.num) x.den in
    ≤ℚ_trans _ x (scale_of x) (le_of_is _ x _ _ _ _ (is_of_int (pos (unsigned_abs x.num / x.den))) (is_self x) (omega (arith, ints, h, e, ap unsigned_abs e))) (self-scale x)
whole_part-scale x (negsuc n) e =
    let h = div-mul-le_self (unsigned_abs x.num) x.den in
    ≤ℚ_trans _ (neg_ℚ x) (scale_of x) (le_of_is _ (neg_ℚ x) _ _ _ _ (is_of_int (pos (unsigned_abs x.num / x.den))) (is_neg x _ _ (is_self x)) (omega (arith, ints, h, e, ap unsigned_abs e))) (neg-scale x)

whole-or : (a b : ℕ) (P : ℕ → Type 0) → P a → P b → P (max a b)
whole-or a b P p q = elim (le_or a b) as (λ _. P (max a b)) [ inl h ↦ subst P (sym (max-eq_right h)) q | inr h ↦ subst P (sym (max-eq_left {n = a} {m = b} (omega arith))) p ]

pub whole_scale-le : (x : ℚ) → of_int (pos (whole_scale x)) ≤ℚ scale_of x
whole_scale-le x = whole-or (unsigned_abs x.num / x.den) 1 (λ n. of_int (pos n) ≤ℚ scale_of x) (whole_part-scale x x.num refl) (one-scale x)

-- ---- the unit

pub ten-fits : (digits : ℕ) → digits ≤ 30 → FitsSigned w128 (pos (10 ^ digits))
ten-fits digits h =
    let most : 10 ^ digits ≤ 10 ^ 30 = pow-le-pow_right {n = 10} (omega arith) h in
    fits_signed_from_abs w128 (pos (10 ^ digits)) (omega arith)

unit-pos : (digits : ℕ) → 0 < 10 ^ digits
unit-pos digits = omega (arith, one-le-pow digits 10 (omega arith))

units : (w b : ℕ) → 0 < b → ratio (pos w) b ≡ ratio (pos 1) b *ℚ of_int (pos w)
units w b h =
    same_is (ratio (pos w) b) (ratio (pos 1) b *ℚ of_int (pos w)) _ _ _ _ (is_ratio (pos w) b h) (is_mul _ _ _ _ _ _ (is_ratio (pos 1) b h) (is_of_int (pos w))) (ring int_ring 2 (λ w b. w ⊗ (b ⊗ lit (pos 1))) (λ w b. lit (pos 1) ⊗ w ⊗ b) refl (pos w) (pos b))

-- the most that is allowed of a gap, as the code computes it
pub most_is : (scale top bottom : ℤ) (most : ℚ) (b : ℕ) → top ≡ scale → bottom ≡ pos b → Some most ≡ narrow_ℚ (quotient top bottom) → most ≡ ratio scale b
most_is scale top bottom most b e f told = narrow_ℚ-some (quotient top bottom) most told ∙ ap₂ quotient e f

-- ---- from a gap in width

pub near_of : (lower upper gap : ℚ) (k digits : ℕ) → digits ≤ k → Some gap ≡ written_sub upper lower → gap ≤ℚ ratio (pos (whole_scale upper)) (10 ^ k) → IsNear digits lower upper
near_of lower upper gap k digits h told within =
    let e : gap ≡ upper -ℚ lower = written_add-some upper (neg_ℚ lower) gap told in
    let finer : ratio (pos (whole_scale upper)) (10 ^ k) ≤ℚ ratio (pos (whole_scale upper)) (10 ^ digits) =
    ratio-le (whole_scale upper) (whole_scale upper) (10 ^ k) (10 ^ digits) (unit-pos k) (unit-pos digits) (mul-le-mul_left (whole_scale upper) (pow-le-pow_right {n = 10} (omega arith) h)) in
    let scaled : ratio (pos (whole_scale upper)) (10 ^ digits) ≤ℚ ratio (pos 1) (10 ^ digits) *ℚ scale_of upper =
    ≤ℚ_trans _ _ _ (≤ℚ_of_eq _ _ (units (whole_scale upper) (10 ^ digits) (unit-pos digits)))
    (mul-le-mul_left_ℚ (ratio (pos 1) (10 ^ digits)) _ _ (ratio-nonneg 1 (10 ^ digits) (unit-pos digits)) (whole_scale-le upper)) in
    let all : upper -ℚ lower ≤ℚ ratio (pos 1) (10 ^ digits) *ℚ scale_of upper =
    subst (λ (x : ℚ). x ≤ℚ ratio (pos 1) (10 ^ digits) *ℚ scale_of upper) e (≤ℚ_trans _ _ _ within (≤ℚ_trans _ _ _ finer scaled)) in
    linear 3 (λ l u e. u) (λ l u e. l ⊕ e) (λ l u e. known (u ⊕ ⊖ l) e ∷ []) refl lower upper (ratio (pos 1) (10 ^ digits) *ℚ scale_of upper) all

-- ---- what is the same is near

pub near_same : (digits : ℕ) (x : ℚ) → IsNear digits x x
near_same digits x =
    let part = mul-nonneg (ratio (pos 1) (10 ^ digits)) (scale_of x) (ratio-nonneg 1 (10 ^ digits) (unit-pos digits)) (scale-nonneg x) in
    linear 2 (λ x e. x) (λ x e. x ⊕ e) (λ x e. known (lit (pos 0)) e ∷ []) refl x (ratio (pos 1) (10 ^ digits) *ℚ scale_of x) part

pub reward_near_same : (digits : ℕ) (x : Option ℚ) → IsRewardNear digits x x
reward_near_same digits None = tt
reward_near_same digits (Some x) = near_same digits x

-- ---- lists

module _ {X : Type 0} (P : X → X → Type 0) (xs ys : List X) (d : X) where
  here : (n : ℕ) (x y : X) → n < length xs → n < length ys → x ≡ get_or xs n x → y ≡ get_or ys n y → P x y → P (get_or xs n d) (get_or ys n d)
  here n x y i j e f p = subst₂ P (e ∙ get_or_default xs n x d i) (f ∙ get_or_default ys n y d j) p

  pub one_more : (n : ℕ) (x y : X) → n < length xs → n < length ys → x ≡ get_or xs n x → y ≡ get_or ys n y → P x y
      → ((s : ℕ) → s < n → P (get_or xs s d) (get_or ys s d)) → (s : ℕ) → s < n + 1 → P (get_or xs s d) (get_or ys s d)
  one_more n x y i j e f p below = below_more (λ s. P (get_or xs s d) (get_or ys s d)) n below (here n x y i j e f p)

-- ---- at each state

pub near_each : (digits : ℕ) (m : Mdp) (lower upper : List ℚ) → upper ≡ lower → AreNear digits m lower upper
near_each digits m lower upper e s i = subst (λ (u : List ℚ). IsNear digits (value_at lower s) (value_at u s)) (sym e) (near_same digits (value_at lower s))

pub rewards_near_each : (digits : ℕ) (m : Mdp) (lower upper : List (Option ℚ)) → upper ≡ lower → AreRewardsNear digits m lower upper
rewards_near_each digits m lower upper e s i = subst (λ (u : List (Option ℚ)). IsRewardNear digits (reward_at lower s) (reward_at u s)) (sym e) (reward_near_same digits (reward_at lower s))

value_near : (digits : ℕ) (x y : Option ℚ) → IsSome x → IsRewardNear digits x y → IsValueNear digits x y
value_near digits (Some x) (Some y) there near = near
value_near digits (Some x) None there near = near
value_near digits None y there near = absurd cc

pub values_near_of : (digits : ℕ) (m : Mdp) (lower upper : List (Option ℚ)) → length lower ≡ states_of m → ((s : ℕ) → s < length lower → IsSome (reward_at lower s)) → AreRewardsNear digits m lower upper → AreValuesNear digits m lower upper
values_near_of digits m lower upper each there near s i = value_near digits (reward_at lower s) (reward_at upper s) (there s (subst (λ (n : ℕ). s < n) (sym each) i)) (near s i)

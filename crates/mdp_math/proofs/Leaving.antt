-- What a weight that shrinks bounds: a family that each step weighs by allowed rows comes below each positive bound.
use Rattle.std.proofs.Common.{◌≡◌, ℕ, zero, suc, ◌<◌, ◌≤◌, Bool, true, false, List, [], ◌∷◌, refl, sym, subst, arith, pos}
use Rattle.mdp_math.specs.{Rational.{ℚ, of_int, ratio, ◌+ℚ◌, ◌*ℚ◌, inv_ℚ, ◌≤ℚ◌, ◌<ℚ◌}, Power.{pow_ℚ}, Sum.{sum_at, EachAt}, Kernel.{weigh}}
use Rattle.mdp_math.proofs.{SumsAt.{sum_at-sum_of, sum_at-le, sum_at-weighted_le, EachAt_mono, EachAt_both, EachAt-from_All}, Ring.{◌⊕◌, ◌⊗◌, lit}}
use Rattle.mdp_math.proofs.Whole.{one-pos, of_nat-nonneg, ratio-pos}
use Rattle.mdp_math.proofs.Order.{0ℚ, 1ℚ, mul-le-mul_left_ℚ, ≤ℚ_refl, ≤ℚ_trans, ≤ℚ_of_lt, ≤ℚ_of_eq, <ℚ-≤ℚ_trans, mul-nonneg, mul-pos_ℚ}
use Rattle.mdp_math.proofs.{Powers.{pow_ℚ-nonneg, pow_ℚ-below}, Division.{inv-pos, mul-inv_pos, half, half_pos, half_twice}}
use Rattle.mdp_math.proofs.{Linear.{linear, linear_lt, equal, at_most, known}, Kernel.{weigh-le, weigh-scale}, Weight.{Shrinks}}

two-nonneg : 0ℚ ≤ℚ of_int (pos 2)
two-nonneg = of_nat-nonneg 2

module _ {A : Type 0} {index : A → ℕ} {entry : A → ℚ} {active : ℕ → Bool} {Allowed : ℕ → List A → Type 0} (K : Shrinks index entry active Allowed) where
  pub weight-pos : (s : ℕ) → active s ≡ true → 0ℚ <ℚ K.weight s
  weight-pos s a = <ℚ-≤ℚ_trans 0ℚ half (K.weight s) half_pos (K.at_least_half s a)

  weight_nonneg_by : (s : ℕ) (b : Bool) → active s ≡ b → 0ℚ ≤ℚ K.weight s
  weight_nonneg_by s true a = ≤ℚ_of_lt 0ℚ (K.weight s) (weight-pos s a)
  weight_nonneg_by s false a = ≤ℚ_of_eq 0ℚ (K.weight s) (sym (K.outside s a))

  pub weight-nonneg : (s : ℕ) → 0ℚ ≤ℚ K.weight s
  weight-nonneg s = weight_nonneg_by s (active s) refl

  -- one step: what is at most c times the weight is shrunk by the rate
  pub shrinks-step : (f : ℕ → ℚ) (c : ℚ) (s : ℕ) (row : List A) → 0ℚ ≤ℚ c → ((v : ℕ) → f v ≤ℚ c *ℚ K.weight v) → active s ≡ true → Allowed s row
      → weigh index entry f row ≤ℚ (K.rate *ℚ c) *ℚ K.weight s
  shrinks-step f c s row hc h a ok =
      linear 6 (λ w u r c l m. w) (λ w u r c l m. (l ⊗ c) ⊗ m) (λ w u r c l m. known w u ∷ equal (lit (pos 1)) u (c ⊗ r) ∷ at_most c r (l ⊗ m) ∷ []) refl
      (weigh index entry f row) (weigh index entry (λ v. c *ℚ K.weight v) row) (weigh index entry K.weight row) c K.rate (K.weight s)
      (weigh-le index entry f (λ v. c *ℚ K.weight v) row (K.entries s row a ok) h) (weigh-scale index entry c K.weight row) hc (K.shrinks s row a ok)

  -- the same of numbers at the entries themselves
  pub shrinks-step_at : (g : ℕ → A → ℚ) (c : ℚ) (s : ℕ) (row : List A) → 0ℚ ≤ℚ c → EachAt row (λ k x. g k x ≤ℚ c *ℚ K.weight (index x)) → active s ≡ true → Allowed s row
      → sum_at row (λ k x. entry x *ℚ g k x) ≤ℚ (K.rate *ℚ c) *ℚ K.weight s
  shrinks-step_at g c s row hc h a ok =
      ≤ℚ_trans _ _ _
      (subst (λ (u : ℚ). sum_at row (λ k x. entry x *ℚ g k x) ≤ℚ u) (sum_at-sum_of row (λ x. entry x *ℚ (c *ℚ K.weight (index x))))
      (sum_at-le row (λ k x. entry x *ℚ g k x) (λ k x. entry x *ℚ (c *ℚ K.weight (index x)))
      (EachAt_mono row (λ k x. (0ℚ ≤ℚ entry x) × (g k x ≤ℚ c *ℚ K.weight (index x))) (λ k x. entry x *ℚ g k x ≤ℚ entry x *ℚ (c *ℚ K.weight (index x)))
      (λ k x p. mul-le-mul_left_ℚ (entry x) (g k x) (c *ℚ K.weight (index x)) p.0 p.1)
      (EachAt_both row (λ k x. 0ℚ ≤ℚ entry x) (λ k x. g k x ≤ℚ c *ℚ K.weight (index x)) (EachAt-from_All row (λ x. 0ℚ ≤ℚ entry x) (K.entries s row a ok)) h))))
      (shrinks-step (λ v. c *ℚ K.weight v) c s row hc (λ v. ≤ℚ_refl (c *ℚ K.weight v)) a ok)

  -- and of several rows, each with a weight of at least 0
  pub shrinks-mixed : {C : Type 0} (cs : List C) (u : ℕ → C → ℚ) (row : ℕ → C → List A) (g : ℕ → C → ℕ → A → ℚ) (c : ℚ) (s : ℕ)
      → 0ℚ ≤ℚ c → active s ≡ true → EachAt cs (λ j y. 0ℚ ≤ℚ u j y)
      → EachAt cs (λ j y. 0ℚ <ℚ u j y → Allowed s (row j y) × EachAt (row j y) (λ k x. g j y k x ≤ℚ c *ℚ K.weight (index x)))
      → sum_at cs (λ j y. u j y *ℚ sum_at (row j y) (λ k x. entry x *ℚ g j y k x)) ≤ℚ sum_at cs u *ℚ ((K.rate *ℚ c) *ℚ K.weight s)
  shrinks-mixed cs u row g c s hc a nonneg h =
      sum_at-weighted_le cs u (λ j y. sum_at (row j y) (λ k x. entry x *ℚ g j y k x)) ((K.rate *ℚ c) *ℚ K.weight s) nonneg
      (EachAt_mono cs (λ j y. 0ℚ <ℚ u j y → Allowed s (row j y) × EachAt (row j y) (λ k x. g j y k x ≤ℚ c *ℚ K.weight (index x)))
      (λ j y. 0ℚ <ℚ u j y → sum_at (row j y) (λ k x. entry x *ℚ g j y k x) ≤ℚ (K.rate *ℚ c) *ℚ K.weight s)
      (λ j y f p. shrinks-step_at (g j y) c s (row j y) hc (f p).1 a (f p).0) h)

  -- at a number that is active or not: the next member of a family
  next_by : (f g : ℕ → ℚ) (c : ℚ) (s : ℕ) (b : Bool) → active s ≡ b → 0ℚ ≤ℚ c → ((v : ℕ) → f v ≤ℚ c *ℚ K.weight v) → (active s ≡ false → g s ≤ℚ 0ℚ)
      → (active s ≡ true → (row : List A) × Allowed s row × (g s ≤ℚ weigh index entry f row)) → g s ≤ℚ (K.rate *ℚ c) *ℚ K.weight s
  next_by f g c s false a hc h out step =
      linear 3 (λ x p w. x) (λ x p w. p ⊗ w) (λ x p w. known x (lit (pos 0)) ∷ equal p (lit (pos 0)) w ∷ []) refl (g s) (K.rate *ℚ c) (K.weight s) (out a) (sym (K.outside s a))
  next_by f g c s true a hc h out step =
      let r = step a in
      ≤ℚ_trans (g s) (weigh index entry f r.0) _ r.2 (shrinks-step f c s r.0 hc h a r.1)

  -- a family that starts at most c times the weight, is at most 0 outside, and steps by allowed rows
  pub shrinks-steps : (f : ℕ → ℕ → ℚ) (c : ℚ) → 0ℚ ≤ℚ c → ((s : ℕ) → f 0 s ≤ℚ c *ℚ K.weight s) → ((n s : ℕ) → active s ≡ false → f n s ≤ℚ 0ℚ)
      → ((n s : ℕ) → active s ≡ true → (row : List A) × Allowed s row × (f (suc n) s ≤ℚ weigh index entry (f n) row))
      → (n s : ℕ) → f n s ≤ℚ (pow_ℚ K.rate n *ℚ c) *ℚ K.weight s
  shrinks-steps f c hc start out step zero s = linear 3 (λ x c w. x) (λ x c w. (lit (pos 1) ⊗ c) ⊗ w) (λ x c w. known x (c ⊗ w) ∷ []) refl (f 0 s) c (K.weight s) (start s)
  shrinks-steps f c hc start out step (suc n) s =
      linear 5 (λ x l p c w. x) (λ x l p c w. ((l ⊗ p) ⊗ c) ⊗ w) (λ x l p c w. known x ((l ⊗ (p ⊗ c)) ⊗ w) ∷ []) refl
      (f (suc n) s) K.rate (pow_ℚ K.rate n) c (K.weight s)
      (next_by (f n) (f (suc n)) (pow_ℚ K.rate n *ℚ c) s (active s) refl (mul-nonneg _ _ (pow_ℚ-nonneg K.rate n K.rate_nonneg) hc)
      (shrinks-steps f c hc start out step n) (out (suc n) s) (step n s))

  -- the n-th power of the rate, times c, times the weight, comes below each positive bound
  pub shrinks-fades : (c q : ℚ) → 0ℚ ≤ℚ c → 0ℚ <ℚ q → (n : ℕ) × ((m s : ℕ) → n ≤ m → (pow_ℚ K.rate m *ℚ c) *ℚ K.weight s ≤ℚ q)
  shrinks-fades c q hc hq =
      let positive : 0ℚ <ℚ c +ℚ 1ℚ = linear_lt 1 (λ c. lit (pos 0)) (λ c. c ⊕ lit (pos 1)) (λ c. lit (pos 1)) (λ c. known (lit (pos 0)) c ∷ []) refl c one-pos hc in
      let hi : 0ℚ <ℚ inv_ℚ (c +ℚ 1ℚ) = inv-pos (c +ℚ 1ℚ) positive in
      let below = pow_ℚ-below K.rate (q *ℚ inv_ℚ (c +ℚ 1ℚ)) K.rate_nonneg K.rate_below (mul-pos_ℚ q (inv_ℚ (c +ℚ 1ℚ)) hq hi) in (
        below.0,
        λ m s hm.
            linear 5 (λ p c w q i. (p ⊗ c) ⊗ w) (λ p c w q i. q)
            (λ p c w q i. at_most (p ⊗ c) w (lit (pos 1)) ∷ at_most c p (q ⊗ i) ∷ equal q ((c ⊕ lit (pos 1)) ⊗ i) (lit (pos 1)) ∷ at_most q (lit (pos 0)) i ∷ []) refl
            (pow_ℚ K.rate m) c (K.weight s) q (inv_ℚ (c +ℚ 1ℚ))
            (mul-nonneg _ _ (pow_ℚ-nonneg K.rate m K.rate_nonneg) hc) (K.at_most_one s)
            hc (below.1 m hm)
            (mul-inv_pos (c +ℚ 1ℚ) positive)
            (≤ℚ_of_lt 0ℚ q hq) (≤ℚ_of_lt 0ℚ (inv_ℚ (c +ℚ 1ℚ)) hi),
      )

  one_by : (x w : ℚ) → x ≤ℚ 1ℚ → half ≤ℚ w → x ≤ℚ of_int (pos 2) *ℚ w
  one_by x w h k = linear 3 (λ x w h. x) (λ x w h. lit (pos 2) ⊗ w)
      (λ x w h. known x (lit (pos 1)) ∷ equal (lit (pos 1)) (lit (pos 1)) (lit (pos 2) ⊗ h) ∷ at_most (lit (pos 2)) h w ∷ []) refl x w half h (sym half_twice) two-nonneg k

  starts_by : (f : ℕ → ℚ) → ((s : ℕ) → f s ≤ℚ 1ℚ) → ((s : ℕ) → active s ≡ false → f s ≤ℚ 0ℚ) → (s : ℕ) (b : Bool) → active s ≡ b → f s ≤ℚ of_int (pos 2) *ℚ K.weight s
  starts_by f h out s true a = one_by (f s) (K.weight s) (h s) (K.at_least_half s a)
  starts_by f h out s false a = linear 2 (λ x w. x) (λ x w. lit (pos 2) ⊗ w) (λ x w. known x (lit (pos 0)) ∷ equal (lit (pos 2)) (lit (pos 0)) w ∷ []) refl (f s) (K.weight s)
      (out s a) (sym (K.outside s a))

  -- a family that starts at most 1 is after n steps at most 2 rate^n weight
  pub leaves : (f : ℕ → ℕ → ℚ) → ((s : ℕ) → f 0 s ≤ℚ 1ℚ) → ((n s : ℕ) → active s ≡ false → f n s ≤ℚ 0ℚ)
      → ((n s : ℕ) → active s ≡ true → (row : List A) × Allowed s row × (f (suc n) s ≤ℚ weigh index entry (f n) row))
      → (n s : ℕ) → f n s ≤ℚ (pow_ℚ K.rate n *ℚ of_int (pos 2)) *ℚ K.weight s
  leaves f start out step = shrinks-steps f (of_int (pos 2)) two-nonneg (λ s. starts_by (f 0) start (out 0) s (active s) refl) out step

  -- so from some n on it is at most 1/k
  pub leaves-fades : (f : ℕ → ℕ → ℚ) (k : ℕ) → 0 < k → ((s : ℕ) → f 0 s ≤ℚ 1ℚ) → ((n s : ℕ) → active s ≡ false → f n s ≤ℚ 0ℚ)
      → ((n s : ℕ) → active s ≡ true → (row : List A) × Allowed s row × (f (suc n) s ≤ℚ weigh index entry (f n) row))
      → (n : ℕ) × ((m s : ℕ) → n ≤ m → f m s ≤ℚ ratio (pos 1) k)
  leaves-fades f k hk start out step =
      let below = shrinks-fades (of_int (pos 2)) (ratio (pos 1) k) two-nonneg (ratio-pos 1 k (omega arith) hk) in
      (below.0, λ m s hm. ≤ℚ_trans _ _ _ (leaves f start out step m s) (below.1 m s hm))

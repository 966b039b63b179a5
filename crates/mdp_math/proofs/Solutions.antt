-- Linear systems over the rows of a kernel: the sign of a solution, that there is one at most, and what makes it positive.
use Rattle.std.proofs.Common.{◌≡◌, ℕ, zero, suc, ◌<◌, ◌⊎◌, inl, inr, Bool, true, false, List, [], ◌∷◌, refl, sym, ◌∙◌, ap, subst, arith, pos}
use Rattle.std.specs.List.{Any}
use Rattle.mdp_math.specs.{Rational.{ℚ, of_int, ◌+ℚ◌, ◌*ℚ◌, ◌-ℚ◌, neg_ℚ, ◌≤ℚ◌, ◌<ℚ◌}, Power.{pow_ℚ}, Kernel.{weigh}}
use Rattle.mdp_math.proofs.{Ring.{◌⊕◌, ◌⊗◌, ⊖, lit}, Whole.{of_nat-nonneg}, Numbers.{last_or}}
use Rattle.mdp_math.proofs.{Order.{0ℚ, ≤ℚ_refl, ≤ℚ_of_lt, ≤ℚ_of_eq, ≤ℚ_or_gt, ≤ℚ_antisymm, <ℚ-≤ℚ_trans, mul-nonneg}, Division.{half, half_twice, le_of_bounds}}
use Rattle.mdp_math.proofs.Linear.{linear, linear_lt, combine, equal, at_most, known}
use Rattle.mdp_math.proofs.{Kernel.{weigh-neg, weigh-sub, weigh-add, weigh-scale, weigh-nonneg, weigh-pos}, Weight.{Shrinks}}
use Rattle.mdp_math.proofs.Leaving.{weight-nonneg, shrinks-steps, shrinks-fades}

-- x is 0 at numbers that are not active, and c and what x weighs in the number's row at active ones
pub record Solves {A : Type 0} (index : A → ℕ) (entry : A → ℚ) (active : ℕ → Bool) (row_of : ℕ → List A) (c x : ℕ → ℚ) : Type 0 where
  pub outside : (s : ℕ) → active s ≡ false → x s ≡ 0ℚ
  pub inside : (s : ℕ) → active s ≡ true → x s ≡ c s +ℚ weigh index entry x (row_of s)

module _ {A : Type 0} {index : A → ℕ} {entry : A → ℚ} {active : ℕ → Bool} {row_of : ℕ → List A} where
  -- the difference of two solutions solves the difference
  pub Solves-sub : (c d x y : ℕ → ℚ) → Solves index entry active row_of c x → Solves index entry active row_of d y → Solves index entry active row_of (λ s. c s -ℚ d s) (λ s. x s -ℚ y s)
  Solves-sub c d x y p q = record {
    outside = λ s a. combine 2 (λ x y. x ⊕ ⊖ y) (λ x y. lit (pos 0)) (λ x y. equal (lit (pos 1)) x (lit (pos 0)) ∷ equal (lit (pos 1)) (lit (pos 0)) y ∷ []) refl (x s) (y s)
        (p.outside s a) (sym (q.outside s a));
    inside = λ s a.
        combine 7 (λ x y c d u v w. x ⊕ ⊖ y) (λ x y c d u v w. (c ⊕ ⊖ d) ⊕ w)
        (λ x y c d u v w. equal (lit (pos 1)) x (c ⊕ u) ∷ equal (lit (pos 1)) (d ⊕ v) y ∷ equal (lit (pos 1)) (u ⊕ ⊖ v) w ∷ []) refl
        (x s) (y s) (c s) (d s) (weigh index entry x (row_of s)) (weigh index entry y (row_of s)) (weigh index entry (λ v. x v -ℚ y v) (row_of s))
        (p.inside s a) (sym (q.inside s a)) (sym (weigh-sub index entry x y (row_of s)));
  }

  pub Solves-add : (c d x y : ℕ → ℚ) → Solves index entry active row_of c x → Solves index entry active row_of d y → Solves index entry active row_of (λ s. c s +ℚ d s) (λ s. x s +ℚ y s)
  Solves-add c d x y p q = record {
    outside = λ s a. combine 2 (λ x y. x ⊕ y) (λ x y. lit (pos 0)) (λ x y. equal (lit (pos 1)) x (lit (pos 0)) ∷ equal (lit (pos 1)) y (lit (pos 0)) ∷ []) refl (x s) (y s)
        (p.outside s a) (q.outside s a);
    inside = λ s a.
        combine 7 (λ x y c d u v w. x ⊕ y) (λ x y c d u v w. (c ⊕ d) ⊕ w)
        (λ x y c d u v w. equal (lit (pos 1)) x (c ⊕ u) ∷ equal (lit (pos 1)) y (d ⊕ v) ∷ equal (lit (pos 1)) (u ⊕ v) w ∷ []) refl
        (x s) (y s) (c s) (d s) (weigh index entry x (row_of s)) (weigh index entry y (row_of s)) (weigh index entry (λ v. x v +ℚ y v) (row_of s))
        (p.inside s a) (q.inside s a) (sym (weigh-add index entry x y (row_of s)));
  }

  pub Solves-scale : (k : ℚ) (c x : ℕ → ℚ) → Solves index entry active row_of c x → Solves index entry active row_of (λ s. k *ℚ c s) (λ s. k *ℚ x s)
  Solves-scale k c x p = record {
    outside = λ s a. combine 2 (λ k x. k ⊗ x) (λ k x. lit (pos 0)) (λ k x. equal k x (lit (pos 0)) ∷ []) refl k (x s) (p.outside s a);
    inside = λ s a.
        combine 5 (λ k x c u w. k ⊗ x) (λ k x c u w. k ⊗ c ⊕ w) (λ k x c u w. equal k x (c ⊕ u) ∷ equal (lit (pos 1)) (k ⊗ u) w ∷ []) refl
        k (x s) (c s) (weigh index entry x (row_of s)) (weigh index entry (λ v. k *ℚ x v) (row_of s))
        (p.inside s a) (sym (weigh-scale index entry k x (row_of s)));
  }

  -- where y misses its sum by e, x - y solves the system for e
  pub Solves-excess : (c e x y : ℕ → ℚ) → Solves index entry active row_of c x → ((s : ℕ) → active s ≡ false → y s ≡ 0ℚ)
      → ((s : ℕ) → active s ≡ true → c s +ℚ weigh index entry y (row_of s) ≡ y s +ℚ e s)
      → Solves index entry active row_of e (λ s. x s -ℚ y s)
  Solves-excess c e x y p out excess = record {
    outside = λ s a. combine 2 (λ x y. x ⊕ ⊖ y) (λ x y. lit (pos 0)) (λ x y. equal (lit (pos 1)) x (lit (pos 0)) ∷ equal (lit (pos 1)) (lit (pos 0)) y ∷ []) refl (x s) (y s)
        (p.outside s a) (sym (out s a));
    inside = λ s a.
        combine 7 (λ x y c e u v w. x ⊕ ⊖ y) (λ x y c e u v w. e ⊕ w)
        (λ x y c e u v w. equal (lit (pos 1)) x (c ⊕ u) ∷ equal (lit (pos 1)) (c ⊕ v) (y ⊕ e) ∷ equal (lit (pos 1)) (u ⊕ ⊖ v) w ∷ []) refl
        (x s) (y s) (c s) (e s) (weigh index entry x (row_of s)) (weigh index entry y (row_of s)) (weigh index entry (λ v. x v -ℚ y v) (row_of s))
        (p.inside s a) (excess s a) (sym (weigh-sub index entry x y (row_of s)));
  }

-- ---- bounded below on finitely many numbers

-- c is at least 0, and -c is at most each of x 0, .., x (n - 1)
abbrev pub Floor : (ℕ → ℚ) → ℕ → Type 0
Floor x n = (c : ℚ) × (0ℚ ≤ℚ c) × ((s : ℕ) → s < n → neg_ℚ c ≤ℚ x s)

floor_step : (x : ℕ → ℚ) (n : ℕ) → Floor x n → (0ℚ ≤ℚ x n) ⊎ (x n <ℚ 0ℚ) → Floor x (suc n)
floor_step x n f (inl h) = (
  f.0,
  f.1,
  λ s l. elim (last_or n s l) as (λ _. neg_ℚ f.0 ≤ℚ x s) [
    | inl e ↦ linear 2 (λ c x. ⊖ c) (λ c x. x) (λ c x. known (lit (pos 0)) c ∷ known (lit (pos 0)) x ∷ []) refl f.0 (x s) f.1 (subst (λ (k : ℕ). 0ℚ ≤ℚ x k) (sym e) h)
    | inr k ↦ f.2 s k
  ],
)
floor_step x n f (inr h) = (
  f.0 -ℚ x n,
  linear 2 (λ c x. lit (pos 0)) (λ c x. c ⊕ ⊖ x) (λ c x. known (lit (pos 0)) c ∷ known x (lit (pos 0)) ∷ []) refl f.0 (x n) f.1 (≤ℚ_of_lt (x n) 0ℚ h),
  λ s l. elim (last_or n s l) as (λ _. neg_ℚ (f.0 -ℚ x n) ≤ℚ x s) [
    | inl e ↦ linear 3 (λ c x y. ⊖ (c ⊕ ⊖ x)) (λ c x y. y) (λ c x y. known (lit (pos 0)) c ∷ equal (lit (pos 1)) x y ∷ []) refl f.0 (x n) (x s) f.1 (ap x (sym e))
    | inr k ↦ linear 3 (λ c x y. ⊖ (c ⊕ ⊖ x)) (λ c x y. y) (λ c x y. known (⊖ c) y ∷ known x (lit (pos 0)) ∷ []) refl f.0 (x n) (x s) (f.2 s k) (≤ℚ_of_lt (x n) 0ℚ h)
  ],
)

pub floor_below : (x : ℕ → ℚ) (n : ℕ) → Floor x n
floor_below x zero = (0ℚ, ≤ℚ_refl 0ℚ, λ s l. absurd (omega arith))
floor_below x (suc n) = floor_step x n (floor_below x n) (≤ℚ_or_gt 0ℚ (x n))

-- ---- the sign of a solution

module _ {A : Type 0} {index : A → ℕ} {entry : A → ℚ} {active : ℕ → Bool} {Allowed : ℕ → List A → Type 0} (K : Shrinks index entry active Allowed) where
  start_by : (x : ℕ → ℚ) (c : ℚ) (s : ℕ) (b : Bool) → active s ≡ b → 0ℚ ≤ℚ c → (active s ≡ true → neg_ℚ c ≤ℚ x s) → (active s ≡ false → 0ℚ ≤ℚ x s)
      → neg_ℚ (x s) ≤ℚ (of_int (pos 2) *ℚ c) *ℚ K.weight s
  start_by x c s true a hc h k =
      linear 4 (λ x c w h. ⊖ x) (λ x c w h. (lit (pos 2) ⊗ c) ⊗ w) (λ x c w h. known (⊖ c) x ∷ equal c (lit (pos 1)) (lit (pos 2) ⊗ h) ∷ at_most (lit (pos 2) ⊗ c) h w ∷ []) refl
      (x s) c (K.weight s) half (h a) (sym half_twice) (mul-nonneg (of_int (pos 2)) c (of_nat-nonneg 2) hc) (K.at_least_half s a)
  start_by x c s false a hc h k =
      linear 3 (λ x c w. ⊖ x) (λ x c w. (lit (pos 2) ⊗ c) ⊗ w) (λ x c w. known (lit (pos 0)) x ∷ at_most (lit (pos 2) ⊗ c) (lit (pos 0)) w ∷ []) refl
      (x s) c (K.weight s) (k a) (mul-nonneg (of_int (pos 2)) c (of_nat-nonneg 2) hc) (weight-nonneg K s)

  -- x is at least 0, where it is so outside, and at least what it weighs in some allowed row of each active number
  pub nonneg_of_rows : (n : ℕ) → ((s : ℕ) → active s ≡ true → s < n) → (x : ℕ → ℚ) → ((s : ℕ) → active s ≡ false → 0ℚ ≤ℚ x s)
      → ((s : ℕ) → active s ≡ true → (row : List A) × Allowed s row × (weigh index entry x row ≤ℚ x s)) → (s : ℕ) → 0ℚ ≤ℚ x s
  nonneg_of_rows n bound x out step s =
      let f = floor_below x n in
      let hc : 0ℚ ≤ℚ of_int (pos 2) *ℚ f.0 = mul-nonneg (of_int (pos 2)) f.0 (of_nat-nonneg 2) f.1 in
      let bounds = shrinks-steps K (λ m v. neg_ℚ (x v)) (of_int (pos 2) *ℚ f.0) hc
      (λ v. start_by x f.0 v (active v) refl f.1 (λ a. f.2 v (bound v a)) (out v))
      (λ m v a. linear 1 (λ x. ⊖ x) (λ x. lit (pos 0)) (λ x. known (lit (pos 0)) x ∷ []) refl (x v) (out v a))
      (λ m v a. (
        (step v a).0,
        (step v a).1,
        linear 3 (λ x u w. ⊖ x) (λ x u w. w) (λ x u w. known u x ∷ equal (lit (pos 1)) (⊖ u) w ∷ []) refl
            (x v) (weigh index entry x (step v a).0) (weigh index entry (λ t. neg_ℚ (x t)) (step v a).0) (step v a).2 (sym (weigh-neg index entry x (step v a).0)),
      )) in
      let small : neg_ℚ (x s) ≤ℚ 0ℚ = le_of_bounds (neg_ℚ (x s)) 0ℚ (λ q hq.
      let fades = shrinks-fades K (of_int (pos 2) *ℚ f.0) q hc hq in
      linear 3 (λ x b q. x) (λ x b q. lit (pos 0) ⊕ q) (λ x b q. known x b ∷ known b q ∷ []) refl (neg_ℚ (x s)) ((pow_ℚ K.rate fades.0 *ℚ (of_int (pos 2) *ℚ f.0)) *ℚ K.weight s) q
      (bounds fades.0 s) (fades.1 fades.0 s (omega arith))) in
      linear 1 (λ x. lit (pos 0)) (λ x. x) (λ x. known (⊖ x) (lit (pos 0)) ∷ []) refl (x s) small

  module _ (n : ℕ) (bound : (s : ℕ) → active s ≡ true → s < n) (row_of : ℕ → List A) (allowed : (s : ℕ) → active s ≡ true → Allowed s (row_of s)) where
    -- what is at least its sum lies above what is at most its sum
    pub le_of_rows : (c y z : ℕ → ℚ) → ((s : ℕ) → active s ≡ false → z s ≤ℚ y s) → ((s : ℕ) → active s ≡ true → c s +ℚ weigh index entry y (row_of s) ≤ℚ y s)
        → ((s : ℕ) → active s ≡ true → z s ≤ℚ c s +ℚ weigh index entry z (row_of s)) → (s : ℕ) → z s ≤ℚ y s
    le_of_rows c y z out above below s =
        linear 2 (λ y z. z) (λ y z. y) (λ y z. known (lit (pos 0)) (y ⊕ ⊖ z) ∷ []) refl (y s) (z s)
        (nonneg_of_rows n bound (λ v. y v -ℚ z v)
        (λ v a. linear 2 (λ y z. lit (pos 0)) (λ y z. y ⊕ ⊖ z) (λ y z. known z y ∷ []) refl (y v) (z v) (out v a))
        (λ v a. (
          row_of v,
          allowed v a,
          linear 6 (λ y z c u w d. d) (λ y z c u w d. y ⊕ ⊖ z) (λ y z c u w d. equal (lit (pos 1)) d (u ⊕ ⊖ w) ∷ known (c ⊕ u) y ∷ known z (c ⊕ w) ∷ []) refl
              (y v) (z v) (c v) (weigh index entry y (row_of v)) (weigh index entry z (row_of v)) (weigh index entry (λ t. y t -ℚ z t) (row_of v))
              (weigh-sub index entry y z (row_of v)) (above v a) (below v a),
        ))
        s)

    -- a system has one solution at most
    pub one_solution : (c y z : ℕ → ℚ) → Solves index entry active row_of c y → Solves index entry active row_of c z → (s : ℕ) → y s ≡ z s
    one_solution c y z p q s =
        ≤ℚ_antisymm (y s) (z s)
        (le_of_rows c z y (λ v a. ≤ℚ_of_eq _ _ (p.outside v a ∙ sym (q.outside v a))) (λ v a. ≤ℚ_of_eq _ _ (sym (q.inside v a))) (λ v a. ≤ℚ_of_eq _ _ (p.inside v a)) s)
        (le_of_rows c y z (λ v a. ≤ℚ_of_eq _ _ (q.outside v a ∙ sym (p.outside v a))) (λ v a. ≤ℚ_of_eq _ _ (sym (p.inside v a))) (λ v a. ≤ℚ_of_eq _ _ (q.inside v a)) s)

    -- ---- a system with constants of at least 0

    module _ (e x : ℕ → ℚ) (nonneg : (s : ℕ) → active s ≡ true → 0ℚ ≤ℚ e s) (solves : Solves index entry active row_of e x) where
      pub solution-nonneg : (s : ℕ) → 0ℚ ≤ℚ x s
      solution-nonneg = nonneg_of_rows n bound x (λ s a. ≤ℚ_of_eq _ _ (sym (solves.outside s a)))
          (λ s a. (
            row_of s,
            allowed s a,
            linear 3 (λ x e u. u) (λ x e u. x) (λ x e u. equal (lit (pos 1)) (e ⊕ u) x ∷ known (lit (pos 0)) e ∷ []) refl (x s) (e s) (weigh index entry x (row_of s))
                (sym (solves.inside s a)) (nonneg s a),
          ))

      pub solution-ge : (s : ℕ) → active s ≡ true → e s ≤ℚ x s
      solution-ge s a =
          linear 3 (λ x e u. e) (λ x e u. x) (λ x e u. equal (lit (pos 1)) (e ⊕ u) x ∷ known (lit (pos 0)) u ∷ []) refl (x s) (e s) (weigh index entry x (row_of s))
          (sym (solves.inside s a)) (weigh-nonneg index entry x (row_of s) (K.entries s (row_of s) a (allowed s a)) solution-nonneg)

      -- above 0 where the constant is
      pub solution-pos : (s : ℕ) → active s ≡ true → 0ℚ <ℚ e s → 0ℚ <ℚ x s
      solution-pos s a h = <ℚ-≤ℚ_trans 0ℚ (e s) (x s) h (solution-ge s a)

      -- and where a positive entry leads to a number where the solution is above 0
      pub solution-pos_by_entry : (s : ℕ) → active s ≡ true → Any (λ y. (0ℚ <ℚ entry y) × (0ℚ <ℚ x (index y))) (row_of s) → 0ℚ <ℚ x s
      solution-pos_by_entry s a h =
          linear_lt 3 (λ x e u. lit (pos 0)) (λ x e u. x) (λ x e u. u) (λ x e u. equal (lit (pos 1)) (e ⊕ u) x ∷ known (lit (pos 0)) e ∷ []) refl (x s) (e s) (weigh index entry x (row_of s))
          (weigh-pos index entry x (row_of s) (K.entries s (row_of s) a (allowed s a)) solution-nonneg h) (sym (solves.inside s a)) (nonneg s a)

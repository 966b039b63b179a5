-- Rows of entries as the rows of a matrix over the active numbers.
use Rattle.std.proofs.Common.{◌≡◌, ℕ, zero, suc, ◌<◌, ◌≤◌, ◌⊎◌, inl, inr, Bool, true, false, eqb, if◌then◌else◌, List, [], ◌∷◌, get_or, refl, sym, ◌∙◌, ap, ap₂, arith, pos}
use Rattle.std.proofs.lemmas.List.Elements.{All-nil, All-cons, All-contains}
use Rattle.std.specs.List.{All, Contains}
use Rattle.mdp_math.specs.{Rational.{ℚ, ◌+ℚ◌, ◌*ℚ◌, ◌-ℚ◌, ◌≤ℚ◌, ◌<ℚ◌}, Sum.{sum_of}, Kernel.{weigh}, Pivot.{active_below, entry_at}}
use Rattle.mdp_math.proofs.{Numbers.{last_or, le_or, eqb-same, eqb-smaller, eqb-greater}, Ring.{◌⊕◌, ◌⊗◌, ⊖, lit, ring}, Laws.{rat_ring, zero-*ℚ}}
use Rattle.mdp_math.proofs.{Order.{0ℚ, 1ℚ, ≤ℚ_refl, add-nonneg, mul-pos_ℚ, sub-pos}, Linear.{linear_lt, combine, equal, known}, Kernel.{All-head, All-tail}}
use Rattle.mdp_math.proofs.{Weight.{Shrinks}, Leaving.{weight-pos}, Solutions.{Solves}, Pivots.{RowsShrink, SolvesOn}}

-- ---- the active numbers below n

module _ (active : ℕ → Bool) where
  all_active_by : (n : ℕ) (b : Bool) → active n ≡ b → All (λ s. (active s ≡ true) × (s < n)) (active_below active n)
      → All (λ s. (active s ≡ true) × (s < suc n)) (if b then n ∷ active_below active n else active_below active n)
  all_active_by n true a h = All-cons (λ s. (active s ≡ true) × (s < suc n)) n (active_below active n) (a, omega arith) (λ k d l. ((h k d l).0, omega (arith, (h k d l).1)))
  all_active_by n false a h = λ k d l. ((h k d l).0, omega (arith, (h k d l).1))

  -- each of them is active and below n
  pub active_below-all : (n : ℕ) → All (λ s. (active s ≡ true) × (s < n)) (active_below active n)
  active_below-all zero = All-nil (λ s. (active s ≡ true) × (s < 0))
  active_below-all (suc n) = all_active_by n (active n) refl (active_below-all n)

  contains_by : (n s : ℕ) (b : Bool) → active n ≡ b → active s ≡ true → (s ≡ n) ⊎ Contains (active_below active n) s → Contains (if b then n ∷ active_below active n else active_below active n) s
  contains_by n s true a e (inl h) = (0, omega arith, sym h)
  contains_by n s true a e (inr h) = (suc h.0, omega (arith, h.1), h.2)
  contains_by n s false a e (inl h) = cc
  contains_by n s false a e (inr h) = h

  -- and each active number below n is one of them
  pub active_below-contains : (n s : ℕ) → active s ≡ true → s < n → Contains (active_below active n) s
  active_below-contains zero s a h = absurd (omega arith)
  active_below-contains (suc n) s a h = elim (last_or n s h) as (λ _. Contains (active_below active (suc n)) s) [
    | inl e ↦ contains_by n s (active n) refl a (inl e)
    | inr l ↦ contains_by n s (active n) refl a (inr (active_below-contains n s a l))
  ]

-- ---- sums over the active numbers

split_sum : (g h f : ℕ → ℚ) (vs : List ℕ) → sum_of (λ v. (g v +ℚ h v) *ℚ f v) vs ≡ sum_of (λ v. g v *ℚ f v) vs +ℚ sum_of (λ v. h v *ℚ f v) vs
split_sum g h f [] = ring rat_ring 0 (lit (pos 0)) (lit (pos 0) ⊕ lit (pos 0)) refl
split_sum g h f (v ∷ vs) =
    ap (λ (s : ℚ). (g v +ℚ h v) *ℚ f v +ℚ s) (split_sum g h f vs)
    ∙ ring rat_ring 5 (λ g h f s t. (g ⊕ h) ⊗ f ⊕ (s ⊕ t)) (λ g h f s t. (g ⊗ f ⊕ s) ⊕ (h ⊗ f ⊕ t)) refl (g v) (h v) (f v) (sum_of (λ w. g w *ℚ f w) vs) (sum_of (λ w. h w *ℚ f w) vs)

none_sum : (f : ℕ → ℚ) (vs : List ℕ) → sum_of (λ v. 0ℚ *ℚ f v) vs ≡ 0ℚ
none_sum f [] = refl
none_sum f (v ∷ vs) = ap (λ (s : ℚ). 0ℚ *ℚ f v +ℚ s) (none_sum f vs) ∙ ring rat_ring 1 (λ f. lit (pos 0) ⊗ f ⊕ lit (pos 0)) (λ f. lit (pos 0)) refl (f v)

-- the entry a at k, times f
abbrev one_term : ℕ → ℚ → (ℕ → ℚ) → ℕ → ℚ
one_term k a f v = (if eqb k v then a else 0ℚ) *ℚ f v

one_term-other : (k : ℕ) (a : ℚ) (f : ℕ → ℚ) (v : ℕ) → eqb k v ≡ false → one_term k a f v ≡ 0ℚ
one_term-other k a f v e = ap (λ (b : Bool). (if b then a else 0ℚ) *ℚ f v) e ∙ zero-*ℚ (f v)

one_term-same : (k : ℕ) (a : ℚ) (f : ℕ → ℚ) → one_term k a f k ≡ a *ℚ f k
one_term-same k a f = ap (λ (b : Bool). (if b then a else 0ℚ) *ℚ f k) (eqb-same k)

plus_zero : (x y z : ℚ) → x ≡ z → y ≡ 0ℚ → x +ℚ y ≡ z
plus_zero x y z p q = combine 3 (λ x y z. x ⊕ y) (λ x y z. z) (λ x y z. equal (lit (pos 1)) x z ∷ equal (lit (pos 1)) y (lit (pos 0)) ∷ []) refl x y z p q

zero_plus : (x y z : ℚ) → x ≡ 0ℚ → y ≡ z → x +ℚ y ≡ z
zero_plus x y z p q = combine 3 (λ x y z. x ⊕ y) (λ x y z. z) (λ x y z. equal (lit (pos 1)) x (lit (pos 0)) ∷ equal (lit (pos 1)) y z ∷ []) refl x y z p q

module _ (active : ℕ → Bool) (k : ℕ) (a : ℚ) (f : ℕ → ℚ) where
  missed_by : (n : ℕ) (b : Bool) → n < k → sum_of (one_term k a f) (active_below active n) ≡ 0ℚ → sum_of (one_term k a f) (if b then n ∷ active_below active n else active_below active n) ≡ 0ℚ
  missed_by n true h e = zero_plus _ _ 0ℚ (one_term-other k a f n (eqb-greater k n h)) e
  missed_by n false h e = e

  missed : (n : ℕ) → n ≤ k → sum_of (one_term k a f) (active_below active n) ≡ 0ℚ
  missed zero h = refl
  missed (suc n) h = missed_by n (active n) (omega arith) (missed n (omega arith))

  picked_here : (n : ℕ) (b : Bool) → active n ≡ b → k ≡ n → (active n ≡ false → f n ≡ 0ℚ) → sum_of (one_term k a f) (if b then n ∷ active_below active n else active_below active n) ≡ a *ℚ f k
  picked_here n true e same out = plus_zero _ _ _ (ap (one_term k a f) (sym same) ∙ one_term-same k a f) (missed n (omega arith))
  picked_here n false e same out =
      missed n (omega arith) ∙ ring rat_ring 1 (λ a. lit (pos 0)) (λ a. a ⊗ lit (pos 0)) refl a ∙ ap (λ (u : ℚ). a *ℚ u) (sym (out e) ∙ ap f (sym same))

  picked_later : (n : ℕ) (b : Bool) → k < n → sum_of (one_term k a f) (active_below active n) ≡ a *ℚ f k
      → sum_of (one_term k a f) (if b then n ∷ active_below active n else active_below active n) ≡ a *ℚ f k
  picked_later n true h e = zero_plus _ _ _ (one_term-other k a f n (eqb-smaller k n h)) e
  picked_later n false h e = e

  picked : (n : ℕ) → k < n → ((v : ℕ) → active v ≡ false → f v ≡ 0ℚ) → sum_of (one_term k a f) (active_below active n) ≡ a *ℚ f k
  picked zero h out = absurd (omega arith)
  picked (suc n) h out = elim (last_or n k h) as (λ _. sum_of (one_term k a f) (active_below active (suc n)) ≡ a *ℚ f k) [
    | inl e ↦ picked_here n (active n) refl e (out n)
    | inr l ↦ picked_later n (active n) l (picked n l out)
  ]

  one_sum_by : (n : ℕ) (b : Bool) → active k ≡ b → ((s : ℕ) → active s ≡ true → s < n)
      → ((v : ℕ) → active v ≡ false → f v ≡ 0ℚ) → sum_of (one_term k a f) (active_below active n) ≡ a *ℚ f k
  one_sum_by n true e bound out = picked n (bound k e) out
  one_sum_by n false e bound out = elim (le_or n k) as (λ _. sum_of (one_term k a f) (active_below active n) ≡ a *ℚ f k) [
    | inl l ↦ missed n l ∙ ring rat_ring 1 (λ a. lit (pos 0)) (λ a. a ⊗ lit (pos 0)) refl a ∙ ap (λ (u : ℚ). a *ℚ u) (sym (out k e))
    | inr l ↦ picked n l out
  ]

module _ {A : Type 0} (index : A → ℕ) (entry : A → ℚ) (active : ℕ → Bool) (n : ℕ) (bound : (s : ℕ) → active s ≡ true → s < n) where
  -- a row weighs what its entries by index do
  pub weigh_dense : (f : ℕ → ℚ) (row : List A) → ((v : ℕ) → active v ≡ false → f v ≡ 0ℚ) → sum_of (λ v. entry_at index entry row v *ℚ f v) (active_below active n) ≡ weigh index entry f row
  weigh_dense f [] out = none_sum f (active_below active n)
  weigh_dense f (x ∷ row) out =
      split_sum (λ v. if eqb (index x) v then entry x else 0ℚ) (entry_at index entry row) f (active_below active n)
      ∙ ap₂ ◌+ℚ◌ (one_sum_by active (index x) (entry x) f n (active (index x)) refl bound out) (weigh_dense f row out)

  entry_by : (a : ℚ) (b : Bool) → 0ℚ ≤ℚ a → 0ℚ ≤ℚ (if b then a else 0ℚ)
  entry_by a true h = h
  entry_by a false h = ≤ℚ_refl 0ℚ

  pub entry_at-nonneg : (row : List A) (v : ℕ) → All (λ x. 0ℚ ≤ℚ entry x) row → 0ℚ ≤ℚ entry_at index entry row v
  entry_at-nonneg [] v h = ≤ℚ_refl 0ℚ
  entry_at-nonneg (x ∷ row) v h =
      add-nonneg _ _ (entry_by (entry x) (eqb (index x) v) (All-head (λ y. 0ℚ ≤ℚ entry y) x row h)) (entry_at-nonneg row v (All-tail (λ y. 0ℚ ≤ℚ entry y) x row h))

  -- the systems over rows and over entries by index have the same solutions
  pub solves_dense : (row_of : ℕ → List A) (c x : ℕ → ℚ) → Solves index entry active row_of c x → SolvesOn (active_below active n) (λ s. entry_at index entry (row_of s)) c x
  solves_dense row_of c x p k d l =
      let a : active (get_or (active_below active n) k d) ≡ true = (active_below-all active n k d l).0 in
      p.inside (get_or (active_below active n) k d) a
      ∙ ap (λ (u : ℚ). c (get_or (active_below active n) k d) +ℚ u) (sym (weigh_dense x (row_of (get_or (active_below active n) k d)) p.outside))

  pub solves_from_dense : (row_of : ℕ → List A) (c x : ℕ → ℚ) → ((s : ℕ) → active s ≡ false → x s ≡ 0ℚ) → SolvesOn (active_below active n) (λ s. entry_at index entry (row_of s)) c x
      → Solves index entry active row_of c x
  solves_from_dense row_of c x out p = record {
    outside = out;
    inside = λ s a.
        All-contains (λ t. x t ≡ c t +ℚ sum_of (λ v. entry_at index entry (row_of t) v *ℚ x v) (active_below active n)) (active_below active n) s p
        (active_below-contains active n s a (bound s a))
        ∙ ap (λ (u : ℚ). c s +ℚ u) (weigh_dense x (row_of s) out);
  }

  -- a weight that shrinks makes each pivot positive
  pub rows_shrink : {Allowed : ℕ → List A → Type 0} (K : Shrinks index entry active Allowed) (row_of : ℕ → List A) → ((s : ℕ) → active s ≡ true → Allowed s (row_of s))
      → RowsShrink K.weight (λ s. entry_at index entry (row_of s)) (active_below active n)
  rows_shrink K row_of allowed = record {
    positive = λ k d l. weight-pos K (get_or (active_below active n) k d) (active_below-all active n k d l).0;
    entries = λ k d l j e m.
        let a : active (get_or (active_below active n) k d) ≡ true = (active_below-all active n k d l).0 in
        entry_at-nonneg (row_of (get_or (active_below active n) k d)) (get_or (active_below active n) j e)
        (K.entries (get_or (active_below active n) k d) (row_of (get_or (active_below active n) k d)) a (allowed (get_or (active_below active n) k d) a));
    sums = λ k d l.
        let a : active (get_or (active_below active n) k d) ≡ true = (active_below-all active n k d l).0 in
        shrinks_lt (get_or (active_below active n) k d) a;
  }
    where
      shrinks_lt : (s : ℕ) → active s ≡ true → sum_of (λ v. entry_at index entry (row_of s) v *ℚ K.weight v) (active_below active n) <ℚ K.weight s
      shrinks_lt s a =
          linear_lt 4 (λ u w l r. u) (λ u w l r. w) (λ u w l r. w ⊗ (lit (pos 1) ⊕ ⊖ l)) (λ u w l r. equal (lit (pos 1)) u r ∷ known r (l ⊗ w) ∷ []) refl
          (sum_of (λ v. entry_at index entry (row_of s) v *ℚ K.weight v) (active_below active n)) (K.weight s) K.rate (weigh index entry K.weight (row_of s))
          (mul-pos_ℚ (K.weight s) (1ℚ -ℚ K.rate) (weight-pos K s a) (sub-pos K.rate 1ℚ K.rate_below))
          (weigh_dense K.weight (row_of s) K.outside) (K.shrinks s (row_of s) a (allowed s a))

-- A policy that, from each marked state, misses the goals with some chance misses them with some chance from each state where it enters a
-- marked one before a goal.
use Rattle.std.proofs.Common.{◌≡◌, ℕ, zero, suc, ◌<◌, ⊎_elim, inl, inr, Bool, true, false, cond, eqb, List, [], ◌∷◌, length, get_or, refl, sym, ◌∙◌, ap, subst, arith, pos}
use Rattle.std.proofs.lemmas.Bool.{cases_eq, eq-eqb, ne_eqb}
use Rattle.std.specs.List.{Any}
use Rattle.mdp_math.specs.{Rational.{ℚ, ◌+ℚ◌, ◌*ℚ◌, ◌-ℚ◌, ◌≤ℚ◌, ◌<ℚ◌}, Sum.{sum_of, sum_at, EachAt, AnyAt}}
use Rattle.mdp_math.proofs.{Ring.{◌⊕◌, ◌⊗◌, ⊖, lit}, Linear.{linear, equal, known}, Order.{0ℚ, 1ℚ, ≤ℚ_refl, ≤ℚ_of_lt, ≤ℚ_trans, mul-pos_ℚ}}
use Rattle.mdp_math.proofs.{Kernel.{weigh-below_mass}, SumsAt.{EachAt_mono, EachAt_both}}
use Rattle.mdp_spec.specs.{Mdp.{Entry, Mdp, states_of, choices_at, row_at}, Row.{IsRow, IsMdp}, Tree.{IsPolicy, is_marked, target_at, unfolded}, Hit.{hit}}
use Rattle.mdp_spec.specs.Pay.{Enters}
use Rattle.mdp_spec.proofs.{Rows.{rows_known, placed, targets_at, probs_nonneg, row_weigh, row_sum-le}, Hits.{hit-end, hit-node}}
use Rattle.mdp_spec.proofs.{Keeping.{target_placed, Keeps, Follows, keeps_unfolded, unfolded_fits, mixed-le}, Above.{hit-nonneg, hit-le_one}}

-- a chance to miss the goals that doesn't depend on the depth
abbrev pub Misses : Mdp → List Bool → List ℕ → ℕ → Type 0
Misses m goals policy s = (x : ℚ) × (0ℚ <ℚ x) × ((d : ℕ) → hit m goals 1 d (unfolded m policy d s) s +ℚ x ≤ℚ 1ℚ)

-- ---- an element at some place

any_by : {A : Type 0} (xs : List A) (Q : A → Type 0) → AnyAt xs (λ k x. Q x) → Any Q xs
any_by [] Q any = absurd any
any_by (x ∷ xs) Q (inl q) = (0, x, omega arith, refl, q)
any_by (x ∷ xs) Q (inr any) = let r = any_by xs Q any in (suc r.0, r.1, omega (arith, r.2), r.3, r.4)

any_with : {A : Type 0} (xs : List A) (P Q R : ℕ → A → Type 0) → ((k : ℕ) (x : A) → P k x → Q k x → R k x) → EachAt xs P → AnyAt xs Q → AnyAt xs R
any_with [] P Q R f each any = absurd any
any_with (x ∷ xs) P Q R f each (inl q) = inl (f 0 x each.0 q)
any_with (x ∷ xs) P Q R f each (inr any) = inr (any_with xs (λ k y. P (suc k) y) (λ k y. Q (suc k) y) (λ k y. R (suc k) y) (λ k y. f (suc k) y) each.1 any)

any_to : {A : Type 0} (xs : List A) (P Q : ℕ → A → Type 0) (C : Type 0) → ((k : ℕ) (x : A) → P k x → Q k x → C) → EachAt xs P → AnyAt xs Q → C
any_to [] P Q C f each any = absurd any
any_to (x ∷ xs) P Q C f each (inl q) = f 0 x each.0 q
any_to (x ∷ xs) P Q C f each (inr any) = any_to xs (λ k y. P (suc k) y) (λ k y. Q (suc k) y) C (λ k y. f (suc k) y) each.1 any

-- ---- one step of the policy

-- 1 - x at one state, 1 elsewhere
abbrev lowered : ℕ → ℚ → ℕ → ℚ
lowered t x v = cond (eqb v t) (1ℚ -ℚ x) 1ℚ

lowered_by-le : (b : Bool) (x : ℚ) → 0ℚ ≤ℚ x → cond b (1ℚ -ℚ x) 1ℚ ≤ℚ 1ℚ
lowered_by-le true x h = linear 1 (λ x. lit (pos 1) ⊕ ⊖ x) (λ x. lit (pos 1)) (λ x. known (lit (pos 0)) x ∷ []) refl x h
lowered_by-le false x h = ≤ℚ_refl 1ℚ

lowered-at : (t : ℕ) (x : ℚ) → lowered t x t ≡ 1ℚ -ℚ x
lowered-at t x = ap (λ (b : Bool). cond b (1ℚ -ℚ x) 1ℚ) (eq-eqb t t refl)

module _ (m : Mdp) (goals : List Bool) (policy : List ℕ) (known_ : IsMdp m) (choice : IsPolicy m policy) where
  hit_below : (t : ℕ) (x : ℚ) (d v : ℕ) → v < states_of m → hit m goals 1 d (unfolded m policy d t) t +ℚ x ≤ℚ 1ℚ → hit m goals 1 d (unfolded m policy d v) v ≤ℚ lowered t x v
  hit_below t x d v h le =
      ⊎_elim
      (λ same.
      subst (λ (w : ℕ). hit m goals 1 d (unfolded m policy d w) w ≤ℚ lowered t x w) (sym same)
      (subst (λ (w : ℚ). hit m goals 1 d (unfolded m policy d t) t ≤ℚ w) (sym (lowered-at t x))
      (linear 2 (λ h x. h) (λ h x. lit (pos 1) ⊕ ⊖ x) (λ h x. known (h ⊕ x) (lit (pos 1)) ∷ []) refl (hit m goals 1 d (unfolded m policy d t) t) x le)))
      (λ other.
      subst (λ (w : ℚ). hit m goals 1 d (unfolded m policy d v) v ≤ℚ w) (sym (ap (λ (b : Bool). cond b (1ℚ -ℚ x) 1ℚ) (ne_eqb v t other)))
      (hit-le_one m goals 1 d (unfolded m policy d v) v known_ (omega arith) h (unfolded_fits m policy d v known_ choice h)))
      (cases_eq v t)

  -- the hit of the policy's tree is at most what the row of its choice weighs of bounds on the hits behind
  pub policy_step : (z : ℕ → ℚ) (d s : ℕ) (b : ℚ) → s < states_of m → is_marked goals s ≡ false
      → ((v : ℕ) → v < states_of m → hit m goals 1 d (unfolded m policy d v) v ≤ℚ z v)
      → row_weigh z (row_at m s (get_or policy s 0)) ≤ℚ b → hit m goals 1 (suc d) (unfolded m policy (suc d) s) s ≤ℚ b
  policy_step z d s b h g below le =
      let keeps = keeps_unfolded m policy (suc d) s known_ choice h in
      subst (λ (x : ℚ). x ≤ℚ b) (sym (hit-node m goals 1 d (λ c. cond (eqb (get_or policy s 0) c) 1 0) (λ c e. unfolded m policy d (target_at m s c e)) s known_ (omega arith) g))
      (mixed-le m 1 (λ c. cond (eqb (get_or policy s 0) c) 1 0) (λ c e y. hit m goals 1 d (unfolded m policy d (target_at m s c e)) y.target) s b (omega arith) keeps.0
      (EachAt_mono (choices_at m s)
      (λ c x. (((c < length (choices_at m s)) × (row_at m s c ≡ x.row)) × IsRow (states_of m) x.row)
      × ((0 < cond (eqb (get_or policy s 0) c) 1 0 → Follows policy s c) × EachAt x.row (λ e y. Keeps m (Follows policy) 1 d (unfolded m policy d (target_at m s c e)) y.target)))
      (λ c x. 0 < cond (eqb (get_or policy s 0) c) 1 0 → sum_at x.row (λ e y. y.prob *ℚ hit m goals 1 d (unfolded m policy d (target_at m s c e)) y.target) ≤ℚ b)
      (λ c x q above.
      ≤ℚ_trans _ _ _
      (row_sum-le (states_of m) x.row (λ e y. hit m goals 1 d (unfolded m policy d (target_at m s c e)) y.target) z q.0.1
      (EachAt_mono x.row (λ e y. (target_at m s c e ≡ y.target) × (y.target < states_of m)) (λ e y. hit m goals 1 d (unfolded m policy d (target_at m s c e)) y.target ≤ℚ z y.target)
      (λ e y p. subst (λ (v : ℕ). hit m goals 1 d (unfolded m policy d v) y.target ≤ℚ z y.target) (sym p.0) (below y.target p.1))
      (EachAt_both x.row (λ e y. target_at m s c e ≡ y.target) (λ e y. y.target < states_of m) (target_placed m s c x.row q.0.0.1) (targets_at (states_of m) x.row q.0.1))))
      (subst (λ (row : List Entry). row_weigh z row ≤ℚ b) (ap (λ (k : ℕ). row_at m s k) (sym (q.1.0 above)) ∙ q.0.0.1) le))
      (EachAt_both (choices_at m s) (λ c x. ((c < length (choices_at m s)) × (row_at m s c ≡ x.row)) × IsRow (states_of m) x.row)
      (λ c x. (0 < cond (eqb (get_or policy s 0) c) 1 0 → Follows policy s c) × EachAt x.row (λ e y. Keeps m (Follows policy) 1 d (unfolded m policy d (target_at m s c e)) y.target))
      (EachAt_both (choices_at m s) (λ c x. (c < length (choices_at m s)) × (row_at m s c ≡ x.row)) (λ c x. IsRow (states_of m) x.row) (placed m s) (rows_known m s known_)) keeps.1)))

  -- a chance to miss behind an entry of the policy's row
  misses_step : (s : ℕ) → s < states_of m → is_marked goals s ≡ false → Any (λ y. Misses m goals policy y.target) (row_at m s (get_or policy s 0)) → Misses m goals policy s
  misses_step s h g (i, y, l, same, (x, positive, missed)) =
      let row_ : IsRow (states_of m) (row_at m s (get_or policy s 0)) = IsMdp.row known_ s (get_or policy s 0) h (choice.in_range s h) in
      let prob : 0ℚ <ℚ y.prob = subst (λ (w : Entry). 0ℚ <ℚ w.prob) same (row_.distribution.positive i y l) in
      let below : row_weigh (lowered y.target x) (row_at m s (get_or policy s 0)) ≤ℚ 1ℚ -ℚ y.prob *ℚ x =
      linear 4 (λ w p x t. w) (λ w p x t. lit (pos 1) ⊕ ⊖ (p ⊗ x)) (λ w p x t. known (w ⊕ p ⊗ x) t ∷ equal (lit (pos 1)) t (lit (pos 1)) ∷ []) refl
      (row_weigh (lowered y.target x) (row_at m s (get_or policy s 0))) y.prob x (sum_of (λ (y : Entry). y.prob) (row_at m s (get_or policy s 0)))
      (weigh-below_mass (λ (y : Entry). y.target) (λ (y : Entry). y.prob) (lowered y.target x) y.prob x (row_at m s (get_or policy s 0))
      (probs_nonneg (states_of m) (row_at m s (get_or policy s 0)) row_)
      (λ v. lowered_by-le (eqb v y.target) x (≤ℚ_of_lt _ _ positive)) (≤ℚ_of_lt _ _ positive)
      (i, y, l, same, (≤ℚ_refl y.prob, subst (λ (w : ℚ). w +ℚ x ≤ℚ 1ℚ) (sym (lowered-at y.target x)) (linear 1 (λ x. (lit (pos 1) ⊕ ⊖ x) ⊕ x) (λ x. lit (pos 1)) (λ x. []) refl x))))
      row_.distribution.total
      in (y.prob *ℚ x, mul-pos_ℚ y.prob x prob positive, bounded y x missed below)
    where
      deeper : (y : Entry) (x : ℚ) → ((d : ℕ) → hit m goals 1 d (unfolded m policy d y.target) y.target +ℚ x ≤ℚ 1ℚ)
          → row_weigh (lowered y.target x) (row_at m s (get_or policy s 0)) ≤ℚ 1ℚ -ℚ y.prob *ℚ x
          → (d : ℕ) → hit m goals 1 (suc d) (unfolded m policy (suc d) s) s +ℚ y.prob *ℚ x ≤ℚ 1ℚ
      deeper y x missed below d =
          linear 3 (λ h p x. h ⊕ p ⊗ x) (λ h p x. lit (pos 1)) (λ h p x. known h (lit (pos 1) ⊕ ⊖ (p ⊗ x)) ∷ []) refl (hit m goals 1 (suc d) (unfolded m policy (suc d) s) s) y.prob x
          (policy_step (lowered y.target x) d s (1ℚ -ℚ y.prob *ℚ x) h g (λ v k. hit_below y.target x d v k (missed d)) below)

      bounded : (y : Entry) (x : ℚ) → ((d : ℕ) → hit m goals 1 d (unfolded m policy d y.target) y.target +ℚ x ≤ℚ 1ℚ)
          → row_weigh (lowered y.target x) (row_at m s (get_or policy s 0)) ≤ℚ 1ℚ -ℚ y.prob *ℚ x
          → (d : ℕ) → hit m goals 1 d (unfolded m policy d s) s +ℚ y.prob *ℚ x ≤ℚ 1ℚ
      bounded y x missed below zero =
          linear 4 (λ h k p x. h ⊕ p ⊗ x) (λ h k p x. lit (pos 1)) (λ h k p x. equal (lit (pos 1)) h (lit (pos 0)) ∷ known (k ⊕ p ⊗ x) (lit (pos 1)) ∷ known (lit (pos 0)) k ∷ []) refl
          (hit m goals 1 0 (unfolded m policy 0 s) s) (hit m goals 1 1 (unfolded m policy 1 s) s) y.prob x
          (hit-end m goals 1 (unfolded m policy 0 s) s (omega arith) g) (deeper y x missed below 0) (hit-nonneg m goals 1 1 (unfolded m policy 1 s) s (omega arith))
      bounded y x missed below (suc d) = deeper y x missed below d

  pub misses_of_enters : (marks : List Bool) → ((s : ℕ) → s < states_of m → is_marked marks s ≡ true → Misses m goals policy s)
      → (n s : ℕ) → s < states_of m → Enters m goals marks n (unfolded m policy n s) s → Misses m goals policy s
  misses_of_enters marks marked zero s h enters = marked s h enters
  misses_of_enters marks marked (suc n) s h (inl e) = marked s h e
  misses_of_enters marks marked (suc n) s h (inr (g, any)) =
      any_to (choices_at m s)
      (λ c x. (((c < length (choices_at m s)) × (row_at m s c ≡ x.row)) × IsRow (states_of m) x.row)
      × ((0 < cond (eqb (get_or policy s 0) c) 1 0 → Follows policy s c) × EachAt x.row (λ e y. Keeps m (Follows policy) 1 n (unfolded m policy n (target_at m s c e)) y.target)))
      (λ c x. (0 < cond (eqb (get_or policy s 0) c) 1 0) × AnyAt x.row (λ e y. Enters m goals marks n (unfolded m policy n (target_at m s c e)) y.target))
      (Misses m goals policy s)
      (λ c x q p.
      misses_step s h g
      (subst (λ (row : List Entry). Any (λ y. Misses m goals policy y.target) row) (sym (ap (λ (k : ℕ). row_at m s k) (sym (q.1.0 p.0)) ∙ q.0.0.1))
      (any_by x.row (λ y. Misses m goals policy y.target)
      (any_with x.row (λ e y. (target_at m s c e ≡ y.target) × (y.target < states_of m)) (λ e y. Enters m goals marks n (unfolded m policy n (target_at m s c e)) y.target)
      (λ e y. Misses m goals policy y.target)
      (λ e y k enters. misses_of_enters marks marked n y.target k.1 (subst (λ (v : ℕ). Enters m goals marks n (unfolded m policy n v) y.target) k.0 enters))
      (EachAt_both x.row (λ e y. target_at m s c e ≡ y.target) (λ e y. y.target < states_of m) (target_placed m s c x.row q.0.0.1) (targets_at (states_of m) x.row q.0.1)) p.1))))
      (EachAt_both (choices_at m s) (λ c x. ((c < length (choices_at m s)) × (row_at m s c ≡ x.row)) × IsRow (states_of m) x.row)
      (λ c x. (0 < cond (eqb (get_or policy s 0) c) 1 0 → Follows policy s c) × EachAt x.row (λ e y. Keeps m (Follows policy) 1 n (unfolded m policy n (target_at m s c e)) y.target))
      (EachAt_both (choices_at m s) (λ c x. (c < length (choices_at m s)) × (row_at m s c ≡ x.row)) (λ c x. IsRow (states_of m) x.row) (placed m s) (rows_known m s known_))
      (keeps_unfolded m policy (suc n) s known_ choice h).1)
      any

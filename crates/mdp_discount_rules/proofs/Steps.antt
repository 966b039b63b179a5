-- Numbers of a tree that go by its first step: at a node they average, by the weights, what each choice gains at once and a part k of what
-- its row weighs of the numbers behind it. Such a number is no better than B, where B meets Bellman's inequality along the choices in use.
use Rattle.std.proofs.{Common.{◌≡◌, ℕ, zero, suc, ◌<◌, ◌≤◌, ⊎_elim, Bool, true, false, List, length, sym, ◌∙◌, ap, subst}, lemmas.Bool.{cases_Bool}}
use Rattle.std.specs.List.{All}
use Rattle.mdp_math.specs.{Rational.{ℚ, ◌+ℚ◌, ◌*ℚ◌, ◌≤ℚ◌, ◌<ℚ◌}, Sum.{sum_at, EachAt}}
use Rattle.mdp_math.proofs.{Laws.{one-*ℚ}, Order.{0ℚ}, SumsAt.{sum_at-sum_of, EachAt_all, EachAt_mono, EachAt_both, EachAt-from_All}}
use Rattle.mdp_spec.specs.{Mdp.{Entry, Choice, Mdp, states_of, choices_at, choice_at, row_at}, Row.{IsRow, IsMdp}, Unit.{count_at}, Tree.{Tree}}
use Rattle.mdp_spec.specs.Tree.Tree.{leaf, node}
use Rattle.mdp_spec.proofs.{Rows.{rows_known, targets_at, nonneg_at, row_weigh}, Hits.{share}, Steps.{placed_choice}}
use Rattle.mdp_spec.proofs.Keeping.{Keeps, share-nonneg, share-pos, shares-total}
use Rattle.mdp_rows.specs.declared.dir.Dir.{Dir}
use Rattle.mdp_discount_rules.proofs.Directions.{NoBetter, no_better_trans, no_better_after, no_better_sum, no_better_product, no_better_weighted}

-- the average over the choices of state s of the gain and k times the sum over the row of f at the choice's place and the entry's place
abbrev pub average : Mdp → ℕ → (ℕ → ℕ) → (Choice → ℚ) → ℚ → (ℕ → ℕ → Entry → ℚ) → ℕ → ℚ
average m u weights gain k f s = sum_at (choices_at m s) (λ c x. share u weights c *ℚ (gain x +ℚ k *ℚ sum_at x.row (λ e y. y.prob *ℚ f c e y)))

-- a number of trees that goes by the first step, at states that don't end
abbrev pub GoesBy : Mdp → ℕ → (ℕ → Bool) → (Choice → ℚ) → ℚ → (ℕ → Tree → ℕ → ℚ) → Type 0
GoesBy m u ends gain k V =
    (n : ℕ) (weights : ℕ → ℕ) (kids : ℕ → ℕ → Tree) (s : ℕ) → s < states_of m → ends s ≡ false
    → V (suc n) (node weights kids) s ≡ average m u weights gain k (λ c e y. V n (kids c e) y.target) s

-- an average is no better than b, where each choice of weight above 0 is no better
pub average-no_better : (dir : Dir) (m : Mdp) (u : ℕ) (weights : ℕ → ℕ) (gain : Choice → ℚ) (k : ℚ)
    (f : ℕ → ℕ → Entry → ℚ) (s : ℕ) (b : ℚ) → 1 ≤ u → count_at (choices_at m s) (λ c x. weights c) ≡ u
    → EachAt (choices_at m s) (λ c x. 0 < weights c → NoBetter dir (gain x +ℚ k *ℚ sum_at x.row (λ e y. y.prob *ℚ f c e y)) b) → NoBetter dir (average m u weights gain k f s) b
average-no_better dir m u weights gain k f s b h adds each =
    subst (λ (w : ℚ). NoBetter dir (average m u weights gain k f s) w) (ap (λ (w : ℚ). w *ℚ b) (shares-total (choices_at m s) u weights h adds) ∙ one-*ℚ b)
    (no_better_weighted dir (choices_at m s) (λ c x. share u weights c) (λ c x. gain x +ℚ k *ℚ sum_at x.row (λ e y. y.prob *ℚ f c e y)) b
    (EachAt_all (choices_at m s) (λ c x. 0ℚ ≤ℚ share u weights c) (λ c x. share-nonneg u weights c h))
    (EachAt_mono (choices_at m s) (λ c x. 0 < weights c → NoBetter dir (gain x +ℚ k *ℚ sum_at x.row (λ e y. y.prob *ℚ f c e y)) b) (λ c x. 0ℚ <ℚ share u weights c
    → NoBetter dir (gain x +ℚ k *ℚ sum_at x.row (λ e y. y.prob *ℚ f c e y)) b)
    (λ c x q p. q (share-pos u weights c h p)) each))

-- a sum over a row of numbers that are no better than z at the entries' targets
pub row_sum-no_better : (dir : Dir) (n : ℕ) (row : List Entry) (f : ℕ → Entry → ℚ) (z : ℕ → ℚ) → IsRow n row → EachAt row (λ e y. NoBetter dir (f e y) (z y.target))
    → NoBetter dir (sum_at row (λ e y. y.prob *ℚ f e y)) (row_weigh z row)
row_sum-no_better dir n row f z known each =
    subst (λ (w : ℚ). NoBetter dir (sum_at row (λ e y. y.prob *ℚ f e y)) w) (sum_at-sum_of row (λ y. y.prob *ℚ z y.target))
    (no_better_sum dir row (λ e y. y.prob *ℚ f e y) (λ e y. y.prob *ℚ z y.target)
    (EachAt_mono row (λ e y. (0ℚ ≤ℚ y.prob) × NoBetter dir (f e y) (z y.target)) (λ e y. NoBetter dir (y.prob *ℚ f e y) (y.prob *ℚ z y.target)) (λ e y q. no_better_product dir y.prob
    (f e y) (z y.target) q.0 q.1)
    (EachAt_both row (λ e y. 0ℚ ≤ℚ y.prob) (λ e y. NoBetter dir (f e y) (z y.target)) (nonneg_at n row known) each)))

module _ (dir : Dir) (m : Mdp) (u : ℕ) (known_ : IsMdp m) (hu : 1 ≤ u) (ends : ℕ → Bool) (P : ℕ → ℕ → Type 0)
    (gain : Choice → ℚ) (k : ℚ) (hk : 0ℚ ≤ℚ k) (V : ℕ → Tree → ℕ → ℚ) (goes : GoesBy m u ends gain k V) (B : ℕ → ℕ → ℚ) where
  -- a number that goes by steps is no better than B at the states C, which the choices that meet P don't leave, for trees that keep the rule P
  module _ (C : ℕ → Type 0) (stop : (n : ℕ) (t : Tree) (s : ℕ) → s < states_of m → C s → ends s ≡ true → NoBetter dir (V n t s) (B n s))
      (last : (t : Tree) (s : ℕ) → s < states_of m → C s → ends s ≡ false → NoBetter dir (V 0 t s) (B 0 s))
      (step : (n s c : ℕ) → s < states_of m → C s → ends s ≡ false → P s c → c < length (choices_at m s)
      → All (λ y. C y.target) (row_at m s c) × NoBetter dir (gain (choice_at m s c) +ℚ k *ℚ row_weigh (B n) (row_at m s c)) (B (suc n) s)) where
    pub no_better_among : (n : ℕ) (t : Tree) (s : ℕ) → s < states_of m → C s → Keeps m P u n t s → NoBetter dir (V n t s) (B n s)
    no_better_among zero t s h i keeps = ⊎_elim (λ e. stop zero t s h i e) (λ e. last t s h i e) (cases_Bool (ends s))
    no_better_among (suc n) leaf s h i keeps = absurd keeps
    no_better_among (suc n) (node weights kids) s h i keeps =
        ⊎_elim (λ e. stop (suc n) (node weights kids) s h i e)
        (λ e.
        subst (λ (x : ℚ). NoBetter dir x (B (suc n) s)) (sym (goes n weights kids s h e))
        (average-no_better dir m u weights gain k (λ c e y. V n (kids c e) y.target) s (B (suc n) s) hu keeps.0
        (EachAt_mono (choices_at m s)
        (λ c x. (((c < length (choices_at m s)) × (choice_at m s c ≡ x)) × IsRow (states_of m) x.row) × ((0 < weights c → P s c) × EachAt x.row (λ e y. Keeps m P u n (kids c e) y.target)))
        (λ c x. 0 < weights c → NoBetter dir (gain x +ℚ k *ℚ sum_at x.row (λ e y. y.prob *ℚ V n (kids c e) y.target)) (B (suc n) s))
        (λ c x q above.
        let now = subst (λ (y : Choice). All (λ z. C z.target) y.row × NoBetter dir (gain y +ℚ k *ℚ row_weigh (B n) y.row) (B (suc n) s)) q.0.0.1 (step n s c h i e (q.1.0 above) q.0.0.0) in
        no_better_trans dir _ (gain x +ℚ k *ℚ row_weigh (B n) x.row) _
        (no_better_after dir (gain x) k _ _ hk
        (row_sum-no_better dir (states_of m) x.row (λ e y. V n (kids c e) y.target) (B n) q.0.1
        (EachAt_mono x.row (λ e y. ((y.target < states_of m) × C y.target) × Keeps m P u n (kids c e) y.target) (λ e y. NoBetter dir (V n (kids c e) y.target) (B n y.target))
        (λ e y r. no_better_among n (kids c e) y.target r.0.0 r.0.1 r.1)
        (EachAt_both x.row (λ e y. (y.target < states_of m) × C y.target) (λ e y. Keeps m P u n (kids c e) y.target)
        (EachAt_both x.row (λ e y. y.target < states_of m) (λ e y. C y.target) (targets_at (states_of m) x.row q.0.1) (EachAt-from_All x.row (λ y. C y.target) now.0)) q.1.1))))
        now.1)
        (EachAt_both (choices_at m s) (λ c x. ((c < length (choices_at m s)) × (choice_at m s c ≡ x)) × IsRow (states_of m) x.row) (λ c x. (0 < weights c
        → P s c) × EachAt x.row (λ e y. Keeps m P u n (kids c e) y.target))
        (EachAt_both (choices_at m s) (λ c x. (c < length (choices_at m s)) × (choice_at m s c ≡ x)) (λ c x. IsRow (states_of m) x.row) (placed_choice m s) (rows_known m s known_)) keeps.1))))
        (cases_Bool (ends s))

  -- the same at all states
  module _ (stop : (n : ℕ) (t : Tree) (s : ℕ) → s < states_of m → ends s ≡ true → NoBetter dir (V n t s) (B n s))
      (last : (t : Tree) (s : ℕ) → s < states_of m → ends s ≡ false → NoBetter dir (V 0 t s) (B 0 s))
      (step : (n s c : ℕ) → s < states_of m → ends s ≡ false → P s c → c < length (choices_at m s) → NoBetter dir (gain (choice_at m s c) +ℚ k *ℚ row_weigh (B n) (row_at m s c)) (B (suc n) s)) where
    pub no_better_by_steps : (n : ℕ) (t : Tree) (s : ℕ) → s < states_of m → Keeps m P u n t s → NoBetter dir (V n t s) (B n s)
    no_better_by_steps n t s h keeps =
        no_better_among (λ s. Unit {0}) (λ n t s h i e. stop n t s h e) (λ t s h i e. last t s h e) (λ n s c h i e p l. (λ j d b. tt, step n s c h e p l)) n t s h tt keeps

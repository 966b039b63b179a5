-- The tree that takes one choice at its first step, and then goes on by a tree of each state.
use Rattle.std.proofs.Common.{◌≡◌, ℕ, suc, ◌<◌, ◌≤◌, Bool, false, cond, eqb, List, length, refl, sym, ◌∙◌, ap, subst, arith}
use Rattle.mdp_math.specs.{Rational.{ℚ, ◌*ℚ◌, ◌≤ℚ◌, ◌<ℚ◌}, Sum.{sum_at, EachAt}}
use Rattle.mdp_math.proofs.{Laws.{one-*ℚ}, Order.{0ℚ, ≤ℚ_of_eq, ≤ℚ_antisymm}}
use Rattle.mdp_math.proofs.SumsAt.{sum_at-same, sum_at-sum_of, sum_at-weighted_ge, EachAt_all, EachAt_mono, EachAt_both}
use Rattle.mdp_spec.specs.{Mdp.{Entry, Mdp, states_of, choices_at, row_at}, Row.{IsRow, IsMdp}, Unit.{count_at}, Tree.{Tree, Fits, target_at, is_marked}}
use Rattle.mdp_spec.specs.{Tree.Tree.{node}, Hit.{hit}}
use Rattle.mdp_spec.proofs.{Hits.{share, mixed, hit-node}, Keeping.{count_at-one, chosen, target_placed, share-nonneg, share-pos, shares-total, mixed-le}}
use Rattle.mdp_spec.proofs.Rows.{rows_known, placed, targets_at, row_weigh}

-- choice p at s, and then at each target t the tree `after t`
abbrev pub first_choice : Mdp → ℕ → ℕ → (ℕ → Tree) → Tree
first_choice m s p after = node (λ c. cond (eqb p c) 1 0) (λ c e. after (target_at m s c e))

pub first_choice_fits : (m : Mdp) (n s p : ℕ) (after : ℕ → Tree) → IsMdp m → p < length (choices_at m s) → ((t : ℕ) → t < states_of m → Fits m 1 n (after t) t)
    → Fits m 1 (suc n) (first_choice m s p after) s
first_choice_fits m n s p after known i fits = (
  count_at-one (choices_at m s) p i,
  EachAt_mono (choices_at m s)
      (λ c x. ((c < length (choices_at m s)) × (row_at m s c ≡ x.row)) × IsRow (states_of m) x.row)
      (λ c x. EachAt x.row (λ e y. Fits m 1 n (after (target_at m s c e)) y.target))
      (λ c x q.
      EachAt_mono x.row (λ e y. (target_at m s c e ≡ y.target) × (y.target < states_of m)) (λ e y. Fits m 1 n (after (target_at m s c e)) y.target)
      (λ e y r. subst (λ (t : ℕ). Fits m 1 n (after t) y.target) (sym r.0) (fits y.target r.1))
      (EachAt_both x.row (λ e y. target_at m s c e ≡ y.target) (λ e y. y.target < states_of m) (target_placed m s c x.row q.0.1) (targets_at (states_of m) x.row q.1)))
      (EachAt_both (choices_at m s) (λ c x. (c < length (choices_at m s)) × (row_at m s c ≡ x.row)) (λ c x. IsRow (states_of m) x.row) (placed m s) (rows_known m s known)),
)

-- an average of sums is at least y, where each sum of a choice of weight above 0 is
mixed-ge : (m : Mdp) (u : ℕ) (weights : ℕ → ℕ) (f : ℕ → ℕ → Entry → ℚ) (s : ℕ) (y : ℚ) → 1 ≤ u → count_at (choices_at m s) (λ c x. weights c) ≡ u
    → EachAt (choices_at m s) (λ c x. 0 < weights c → y ≤ℚ sum_at x.row (λ e t. t.prob *ℚ f c e t)) → y ≤ℚ mixed m u weights f s
mixed-ge m u weights f s y h total each =
    subst (λ (w : ℚ). w ≤ℚ mixed m u weights f s) (ap (λ (w : ℚ). w *ℚ y) (shares-total (choices_at m s) u weights h total) ∙ one-*ℚ y)
    (sum_at-weighted_ge (choices_at m s) (λ c x. share u weights c) (λ c x. sum_at x.row (λ e t. t.prob *ℚ f c e t)) y
    (EachAt_all (choices_at m s) (λ c x. 0ℚ ≤ℚ share u weights c) (λ c x. share-nonneg u weights c h))
    (EachAt_mono (choices_at m s) (λ c x. 0 < weights c → y ≤ℚ sum_at x.row (λ e t. t.prob *ℚ f c e t)) (λ c x. 0ℚ <ℚ share u weights c → y ≤ℚ sum_at x.row (λ e t. t.prob *ℚ f c e t))
    (λ c x k p. k (share-pos u weights c h p)) each))

module _ (m : Mdp) (goals : List Bool) (n s p : ℕ) (after : ℕ → Tree) (known_ : IsMdp m) (h : s < states_of m) (g : is_marked goals s ≡ false) (i : p < length (choices_at m s)) where
  abbrev value : ℚ
  value = row_weigh (λ t. hit m goals 1 n (after t) t) (row_at m s p)

  abbrev behind : ℕ → ℕ → Entry → ℚ
  behind c e y = hit m goals 1 n (after (target_at m s c e)) y.target

  -- a sum over a row by place, of numbers of the trees behind
  row_after : sum_at (row_at m s p) (λ e y. y.prob *ℚ behind p e y) ≡ value
  row_after =
      sum_at-same (row_at m s p) (λ e y. y.prob *ℚ behind p e y) (λ e y. y.prob *ℚ hit m goals 1 n (after y.target) y.target)
      (EachAt_mono (row_at m s p) (λ e y. target_at m s p e ≡ y.target) (λ e y. y.prob *ℚ behind p e y ≡ y.prob *ℚ hit m goals 1 n (after y.target) y.target)
      (λ e y r. ap (λ (t : ℕ). y.prob *ℚ hit m goals 1 n (after t) y.target) r) (target_placed m s p (row_at m s p) refl))
      ∙ sum_at-sum_of (row_at m s p) (λ y. y.prob *ℚ hit m goals 1 n (after y.target) y.target)

  each : EachAt (choices_at m s) (λ c x. 0 < cond (eqb p c) 1 0 → sum_at x.row (λ e y. y.prob *ℚ behind c e y) ≡ value)
  each =
      EachAt_mono (choices_at m s) (λ c x. (c < length (choices_at m s)) × (row_at m s c ≡ x.row)) (λ c x. 0 < cond (eqb p c) 1 0 → sum_at x.row (λ e y. y.prob *ℚ behind c e y) ≡ value)
      (λ c x q above.
      subst (λ (row : List Entry). sum_at row (λ e y. y.prob *ℚ behind c e y) ≡ value) q.1
      (subst (λ (d : ℕ). sum_at (row_at m s d) (λ e y. y.prob *ℚ behind d e y) ≡ value) (sym (chosen p c above)) row_after))
      (placed m s)

  -- the chance to meet a goal by it is what the choice's row weighs of the chances behind
  pub first_choice-is : hit m goals 1 (suc n) (first_choice m s p after) s ≡ value
  first_choice-is =
      let one : count_at (choices_at m s) (λ c x. cond (eqb p c) 1 0) ≡ 1 = count_at-one (choices_at m s) p i in
      hit-node m goals 1 n (λ c. cond (eqb p c) 1 0) (λ c e. after (target_at m s c e)) s known_ (omega arith) g
      ∙ ≤ℚ_antisymm _ _
      (mixed-le m 1 (λ c. cond (eqb p c) 1 0) behind s value (omega arith) one
      (EachAt_mono (choices_at m s) (λ c x. 0 < cond (eqb p c) 1 0 → sum_at x.row (λ e y. y.prob *ℚ behind c e y) ≡ value)
      (λ c x. 0 < cond (eqb p c) 1 0 → sum_at x.row (λ e y. y.prob *ℚ behind c e y) ≤ℚ value) (λ c x q above. ≤ℚ_of_eq _ _ (q above)) each))
      (mixed-ge m 1 (λ c. cond (eqb p c) 1 0) behind s value (omega arith) one
      (EachAt_mono (choices_at m s) (λ c x. 0 < cond (eqb p c) 1 0 → sum_at x.row (λ e y. y.prob *ℚ behind c e y) ≡ value)
      (λ c x. 0 < cond (eqb p c) 1 0 → value ≤ℚ sum_at x.row (λ e y. y.prob *ℚ behind c e y)) (λ c x q above. ≤ℚ_of_eq _ _ (sym (q above))) each))

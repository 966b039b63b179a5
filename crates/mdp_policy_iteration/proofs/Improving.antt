-- One step of policy iteration in exact numbers: the improved policy takes candidates, it leaves its active nodes again, and its values are at
-- least as good at each node and better at each node that was changed.
use Rattle.std.proofs.Common.{◌≡◌, ℕ, suc, ◌<◌, ◌≤◌, ◌⊎◌, inl, inr, Bool, true, false, List, length, get_or, map, Option, Some, None, refl, sym, ◌∙◌, ap, subst, arith, zero-add}
use Rattle.std.proofs.{lemmas.List.FromFn.{get_or-map-range_with_len, length-map-range_with_len}, Math.ListN.{get_or-eq_default}}
use Rattle.std.specs.{List.{Any, range_with_len}, Prelude.{slice_index, slice_index_or}}
use Rattle.mdp_math.specs.{Rational.{ℚ, ◌+ℚ◌, ◌≤ℚ◌, ◌<ℚ◌}, Kernel.{weigh}}
use Rattle.mdp_math.proofs.{Order.{0ℚ, ≤ℚ_refl, ≤ℚ_trans, ≤ℚ_of_lt, ≤ℚ_of_eq, <ℚ-≤ℚ_trans, add-le-add_ℚ}, Kernel.{Any-and, weigh-le}, Floors.{greatest_rank}}
use Rattle.mdp_math.proofs.{Numbers.{le_or}, Solutions.{le_of_rows}}
use Rattle.mdp_spec.specs.{Mdp.{Entry, value_at}, Row.{IsRow, row_sum}}
use Rattle.mdp_elim.specs.System.{is_active, row_of}
use Rattle.mdp_policy_iteration.specs.Problem.{Problem, Node, given, decision, Move, go, no_choice, count, node_at, choices_of, choices_at}
use Rattle.mdp_policy_iteration.specs.Problem.{choice_at, goes_on, amount, row_from, move_by, taken, active_of, rows_of, IsProblem, IsCandidate, IsPolicy, worth}
use Rattle.mdp_policy_iteration.specs.{Values.{IsValue, CanLeave, EarnsNoGood, NoneHelps}, Path.{or_kept, improved}}
use Rattle.mdp_policy_iteration.proofs.{Turned.{turn, turn-zero, turn-add, turn-row, turn_as_good}, LeavesAgain.{next_rank, falls_again}}
use Rattle.mdp_policy_iteration.proofs.Compares.{IsImprovement, AreImprovements}
use Rattle.mdp_policy_iteration.proofs.Chain.{target, prob, row-at, active-at, rows-len, active-below, goes_by, stops_by, row_active, chain-shrinks, sum-at}

module _ (p : Problem) (policy : List ℕ) (known : IsProblem p) (is : IsPolicy p policy) (x : List ℚ) (takes : List (Option ℕ)) (imp : AreImprovements p x takes) where
  abbrev taking : ℕ → Option ℕ
  taking s = get_or takes s None

  abbrev after : List ℕ
  after = improved policy takes

  pub after-at : (s : ℕ) → s < count p → slice_index after s ≡ or_kept (taking s) (slice_index policy s)
  after-at s l = let n = is.one_each in get_or-map-range_with_len (λ s. or_kept (taking s) (slice_index policy s)) 0 (length policy) s s 0 (omega arith) (zero-add s)

  -- a choice that is taken is a candidate of the node
  candidate_by : (node : Node) (c : ℕ) → c < length (choices_of node) → (slice_index_or (choices_of node) c no_choice).candidate ≡ true → IsCandidate node c
  candidate_by (given v) c l e = tt
  candidate_by (decision choices) c l e = (l, e)

  after_by : (s : ℕ) (o : Option ℕ) → s < count p → IsImprovement p x s o → IsCandidate (node_at p s) (or_kept o (slice_index policy s))
  after_by s None l h = is.candidate s l
  after_by s (Some c) l h = candidate_by (node_at p s) c h.0 h.1

  pub after-is : IsPolicy p after
  after-is = record {
    one_each = length-map-range_with_len (λ s. or_kept (taking s) (slice_index policy s)) 0 (length policy) ∙ is.one_each;
    candidate = λ s l. subst (IsCandidate (node_at p s)) (sym (after-at s l)) (after_by s (taking s) l (imp.at s l));
  }

  -- what it has at a node whose value is given stays
  given_by : (s : ℕ) (v : ℚ) (o : Option ℕ) → node_at p s ≡ given v → IsImprovement p x s o → or_kept o (slice_index policy s) ≡ slice_index policy s
  given_by s v None e h = refl
  given_by s v (Some c) e h = absurd (let q : length (choices_at p s) ≡ 0 = ap (λ (n : Node). length (choices_of n)) e in let i = h.0 in omega arith)

  pub given-kept : (s : ℕ) (v : ℚ) → s < count p → node_at p s ≡ given v → slice_index after s ≡ slice_index policy s
  given-kept s v l e = after-at s l ∙ given_by s v (taking s) e (imp.at s l)

  -- ---- what the next policy does at a node

  move_of_choice : (node : Node) (c : ℕ) → c < length (choices_of node) → move_by node c ≡ (slice_index_or (choices_of node) c no_choice).move
  move_of_choice (given v) c l = absurd (omega arith)
  move_of_choice (decision choices) c l = refl

  -- it is better than the value, or the node keeps its move
  abbrev Changed : ℕ → Type 0
  Changed s = turn p.dir (value_at x s) <ℚ turn p.dir (worth x (taken p after s))

  changed_by : (s c : ℕ) → s < count p → taking s ≡ Some c → IsImprovement p x s (Some c) → Changed s
  changed_by s c l e h =
      let q : taken p after s ≡ (choice_at p s c).move = ap (move_by (node_at p s)) (after-at s l ∙ ap (λ (o : Option ℕ). or_kept o (slice_index policy s)) e) ∙ move_of_choice (node_at p s) c h.0 in
      subst (λ (m : Move). turn p.dir (value_at x s) <ℚ turn p.dir (worth x m)) (sym q) h.2

  pub changed-at : (s c : ℕ) → s < count p → taking s ≡ Some c → Changed s
  changed-at s c l e = changed_by s c l e (subst (IsImprovement p x s) e (imp.at s l))

  kept-at : (s : ℕ) → s < count p → taking s ≡ None → taken p after s ≡ taken p policy s
  kept-at s l e = ap (move_by (node_at p s)) (after-at s l ∙ ap (λ (o : Option ℕ). or_kept o (slice_index policy s)) e)

  either_by : (s : ℕ) (o : Option ℕ) → s < count p → taking s ≡ o → Changed s ⊎ (taken p after s ≡ taken p policy s)
  either_by s None l e = inr (kept-at s l e)
  either_by s (Some c) l e = inl (changed-at s c l e)

  either : (s : ℕ) → s < count p → Changed s ⊎ (taken p after s ≡ taken p policy s)
  either s l = either_by s (taking s) l refl

  module _ (value : IsValue p policy x) where
    -- so it isn't worse
    gains : (s : ℕ) → s < count p → turn p.dir (value_at x s) ≤ℚ turn p.dir (worth x (taken p after s))
    gains s l = elim (either s l) as (λ _. turn p.dir (value_at x s) ≤ℚ turn p.dir (worth x (taken p after s))) [
      | inl h ↦ ≤ℚ_of_lt _ _ h
      | inr e ↦ ≤ℚ_of_eq _ _ (ap (turn p.dir) (value.at s l ∙ ap (worth x) (sym e)))
    ]

    -- ---- it leaves again

    earns_by : (s c : ℕ) (node : Node) (r : ℚ) (es : List Entry) → NoneHelps p → s < count p → node_at p s ≡ node → IsCandidate node c → move_by node c ≡ go r es → EarnsNoGood p.dir (go r es)
    earns_by s c (given v) r es none l e h m = cc
    earns_by s c (decision choices) r es none l e h m =
        subst (EarnsNoGood p.dir) m
        (subst (λ (k : Node). EarnsNoGood p.dir (slice_index_or (choices_of k) c no_choice).move) e
        (none s c l (let q : length (choices_at p s) ≡ length choices = ap (λ (k : Node). length (choices_of k)) e in omega (arith, h.0))
        (ap (λ (k : Node). (slice_index_or (choices_of k) c no_choice).candidate) e ∙ h.1)))

    module _ (none : NoneHelps p) (leaves : CanLeave p policy) where
      abbrev active : ℕ → Bool
      active = is_active (active_of p policy)

      -- the old ranks: 0 at nodes that stop
      abbrev rank_by : Bool → ℕ → ℕ
      rank_by true k = suc k
      rank_by false k = 0

      abbrev rank : ℕ → ℕ
      rank s = rank_by (active s) (slice_index leaves.0 s)

      falls_by : (k i : ℕ) (a b : Bool) → b ≡ true → (a ≡ false) ⊎ (i < k) → rank_by a i < rank_by b k
      falls_by k i true true e (inl h) = cc
      falls_by k i true true e (inr h) = omega arith
      falls_by k i false true e h = omega arith
      falls_by k i a false e h = cc

      abbrev v : ℕ → ℚ
      v s = turn p.dir (value_at x s)

      abbrev most : ℕ
      most = (greatest_rank rank (count p)).0

      abbrev rank_after : ℕ → ℕ
      rank_after = next_rank v (count p) rank most

      -- a node that keeps its move has the old entry to a smaller rank
      kept_falls : (s : ℕ) (r : ℚ) (es : List Entry) → s < count p → taken p policy s ≡ go r es → Any (λ y. rank y.target < rank s) es
      kept_falls s r es l e =
          let a : active s ≡ true = active-at p policy s l ∙ ap goes_on e in
          let row : row_of (rows_of p policy) s ≡ es = row-at p policy s l ∙ ap (row_from s) e in
          let h = leaves.2.falls s (let n = rows-len p policy in omega arith) a in
          subst (Any (λ y. rank y.target < rank s)) row (h.0, h.1, h.2, h.3, falls_by (slice_index leaves.0 s) (slice_index leaves.0 (target h.1)) (active (target h.1)) (active s) a h.4)

      worth_go : (r : ℚ) (es : List Entry) → turn p.dir (worth x (go r es)) ≡ turn p.dir r +ℚ weigh target prob v es
      worth_go r es = turn-add p.dir r (row_sum es x) ∙ ap (λ (o : ℚ). turn p.dir r +ℚ o) (turn-row p.dir es x)

      change_by : (s : ℕ) (r : ℚ) (es : List Entry) → s < count p → taken p after s ≡ go r es → Changed s ⊎ (taken p after s ≡ taken p policy s)
          → (v s <ℚ turn p.dir r +ℚ weigh target prob v es) ⊎ ((v s ≤ℚ turn p.dir r +ℚ weigh target prob v es) × Any (λ y. rank y.target < rank s) es)
      change_by s r es l e (inl h) = inl (subst (λ (u : ℚ). v s <ℚ u) (ap (λ (m : Move). turn p.dir (worth x m)) e ∙ worth_go r es) h)
      change_by s r es l e (inr h) = inr (subst (λ (u : ℚ). v s ≤ℚ u) (ap (λ (m : Move). turn p.dir (worth x m)) e ∙ worth_go r es) (gains s l), kept_falls s r es l (sym h ∙ e))

      falls_go : (s : ℕ) (r : ℚ) (es : List Entry) → s < count p → taken p after s ≡ go r es → IsRow (count p) es → Any (λ y. rank_after y.target < rank_after s) es
      falls_go s r es l e row =
          falls_again v (count p) rank most target prob s (turn p.dir r) es row.distribution.positive row.in_range
          (λ k d j. (greatest_rank rank (count p)).1 _ (row.in_range k d j)) row.distribution.total
          (subst (λ (u : ℚ). turn p.dir r ≤ℚ u) (turn-zero p.dir) (turn_as_good p.dir 0ℚ r (earns_by s (slice_index after s) (node_at p s) r es none l refl (after-is.candidate s l) e)))
          (change_by s r es l e (either s l))

      ranks_after : List ℕ
      ranks_after = map rank_after (range_with_len 0 (count p))

      rank_after-at : (s : ℕ) → s < count p → slice_index ranks_after s ≡ rank_after s
      unfolding ranks_after
      rank_after-at s l = get_or-map-range_with_len rank_after 0 (count p) s s 0 l (zero-add s)

      falls-at : (s : ℕ) → s < count p → is_active (active_of p after) s ≡ true
          → Any (λ y. (is_active (active_of p after) y.target ≡ false) ⊎ (slice_index ranks_after y.target < slice_index ranks_after s)) (row_of (rows_of p after) s)
      falls-at s l a =
          let g = goes_by (taken p after s) (sym (active-at p after s l) ∙ a) in
          let row : row_of (rows_of p after) s ≡ g.row = row-at p after s l ∙ ap (row_from s) g.is in
          let known_row : IsRow (count p) g.row = subst (IsRow (count p)) row (row_active p after known after-is s a) in
          let both = Any-and (λ y. y.target < count p) (λ y. rank_after y.target < rank_after s) g.row known_row.in_range (falls_go s g.earned g.row l g.is known_row) in
          subst (Any (λ y. (is_active (active_of p after) y.target ≡ false) ⊎ (slice_index ranks_after y.target < slice_index ranks_after s))) (sym row)
          (both.0, both.1, both.2, both.3, inr (smaller (rank_after-at (target both.1) both.4.0) (rank_after-at s l) both.4.1))
        where
          smaller : {i j a b : ℕ} → i ≡ a → j ≡ b → a < b → i < j
          smaller e f l = omega arith

      pub leaves_again : CanLeave p after
      unfolding ranks_after
      leaves_again = (ranks_after, length-map-range_with_len rank_after 0 (count p), record { falls = λ s l a. falls-at s (let n = rows-len p after in omega arith) a })

    -- ---- its values

    module _ (leaves : CanLeave p after) (y : List ℚ) (value_after : IsValue p after y) where
      abbrev c : ℕ → ℚ
      c s = turn p.dir (amount (taken p after s))

      abbrev old : ℕ → ℚ
      old s = turn p.dir (value_at x s)

      abbrev new : ℕ → ℚ
      new s = turn p.dir (value_at y s)

      stopped_by : (s : ℕ) → (count p ≤ s) ⊎ (s < count p) → is_active (active_of p after) s ≡ false → old s ≤ℚ new s
      stopped_by s (inl l) a =
          let n = value.len in
          let m = value_after.len in
          let i : length x ≤ s = omega arith in
          let j : length y ≤ s = omega arith in
          ≤ℚ_of_eq _ _ (ap (turn p.dir) (get_or-eq_default x 0ℚ i ∙ sym (get_or-eq_default y 0ℚ j)))
      stopped_by s (inr l) a =
          let g = stops_by (taken p after s) (sym (active-at p after s l) ∙ a) in
          ≤ℚ_trans _ _ _ (gains s l) (≤ℚ_of_eq _ _ (ap (turn p.dir) (ap (worth x) g.is ∙ sym (value_after.at s l ∙ ap (worth y) g.is))))

      pub not_worse : (s : ℕ) → turn p.dir (value_at x s) ≤ℚ turn p.dir (value_at y s)
      not_worse s =
          le_of_rows (chain-shrinks p after known after-is leaves) (count p) (active-below p after) (row_of (rows_of p after)) (λ s a. refl) c new old
          (λ s a. stopped_by s (le_or (count p) s) a)
          (λ s a. ≤ℚ_of_eq _ _ (sym (ap (turn p.dir) (value_after.at s (active-below p after s a)) ∙ sum-at p after y s a)))
          (λ s a. ≤ℚ_trans _ _ _ (gains s (active-below p after s a)) (≤ℚ_of_eq _ _ (sum-at p after x s a)))
          s

      -- what a move is worth doesn't fall
      worth_by : (s : ℕ) (b : Bool) → s < count p → is_active (active_of p after) s ≡ b → turn p.dir (worth x (taken p after s)) ≤ℚ turn p.dir (worth y (taken p after s))
      worth_by s false l a = let g = stops_by (taken p after s) (sym (active-at p after s l) ∙ a) in ≤ℚ_of_eq _ _ (ap (turn p.dir) (ap (worth x) g.is ∙ sym (ap (worth y) g.is)))
      worth_by s true l a =
          ≤ℚ_trans _ _ _ (≤ℚ_of_eq _ _ (sum-at p after x s a))
          (≤ℚ_trans _ _ _
          (add-le-add_ℚ _ _ _ _ (≤ℚ_refl (c s))
          (weigh-le target prob old new (row_of (rows_of p after) s) (λ k d i. ≤ℚ_of_lt 0ℚ _ ((row_active p after known after-is s a).distribution.positive k d i)) not_worse))
          (≤ℚ_of_eq _ _ (sym (sum-at p after y s a))))

      -- and a node that is changed has a better value
      pub better_at : (s d : ℕ) → s < count p → taking s ≡ Some d → turn p.dir (value_at x s) <ℚ turn p.dir (value_at y s)
      better_at s d l e =
          <ℚ-≤ℚ_trans _ _ _ (changed-at s d l e) (≤ℚ_trans _ _ _ (worth_by s (is_active (active_of p after) s) l refl) (≤ℚ_of_eq _ _ (ap (turn p.dir) (sym (value_after.at s l)))))

-- States from which trees miss the goals with some chance: those with a number above 0 that falls, or stays the same at all successors.
use Rattle.std.proofs.Common.{◌≡◌, ◌⊎◌, inl, inr, ℕ, zero, suc, ◌+◌, ◌<◌, ◌≤◌, Bool, true, false, cond, not, ◌||◌, ◌&&◌, ◌==◌, nat_lt, lt-ltb, ltb-true, eq-eqb, List}
use Rattle.std.proofs.{Common.{length, get_or, sym, ap, ◌∙◌, subst, arith}, lemmas.Bool.{false≢true, eqb-true, cases_Bool}}
use Rattle.std.proofs.{lemmas.List.Folds.{Any-from_list_any}, lemmas.List.FromFn.{get_or-map-range_with_len, length-map-range_with_len}}
use Rattle.std.specs.List.{All, Any}
use Rattle.mdp_math.specs.Rational.{◌+ℚ◌, ◌≤ℚ◌}
use Rattle.mdp_math.proofs.{Order.{1ℚ}, Booleans.{and-left, and-right, and-both}}
use Rattle.mdp_spec.specs.{Bounds.{part}, Hit.{hit}, Mdp.{Entry, Choice, Mdp, no_choice, states_of, choices_at, row_at}, Row.{IsMdp}}
use Rattle.mdp_spec.specs.Tree.{IsPolicy, Tree, unfolded}
use Rattle.mdp_spec.proofs.{Keeping.{HasChoice, Follows, Keeps, keeps_of_Fits, keeps_unfolded}, Misses.{misses_by_ranks}}
use Rattle.mdp_graph.specs.{Sets.{marked, can_enter, stays_in, some_choice}, Layers.{reached, AreReached, AreLeastRanks}, Choices.{AreLeast}}
use Rattle.mdp_graph.specs.{Reach.{may_step, falls}, Sure.{inside_step}, Rounds.{left_after, AreRounds}, Avoid.{IsGreatestAvoiding, keeps}}
use Rattle.mdp_graph.specs.Laws.{TreesMiss, joined, JoinedMisses}
use Rattle.mdp_graph.proofs.{Reaching.{first-reached, step-reaches}, RoundLaws.{rounds_fall}}
use Rattle.mdp_graph.proofs.RowSets.{list_any-at, list_any-by, list_all-at, enters-at, enters-by, stays-more}

-- Goals have the number 0. At another state with a number above 0 each choice that meets a rule has a successor of a smaller number above 0, or
-- all its successors have the same number. Such a state misses the goals with a chance that doesn't depend on the depth.
module _ (m : Mdp) (goals : List Bool) (ok : IsMdp m) (P : ℕ → ℕ → Type 0) (number : ℕ → ℕ) (zero_at : (s : ℕ) → s < states_of m → marked goals s ≡ true → number s ≡ 0)
    (fall : (s c : ℕ) → s < states_of m → marked goals s ≡ false → P s c → 0 < number s → c < length (choices_at m s)
    → (can_enter (λ t. nat_lt 0 (number t) && nat_lt (number t) (number s)) (row_at m s c) ≡ true) ⊎ (stays_in (λ t. number t == number s) (row_at m s c) ≡ true)) where
  no_goal : (s : ℕ) → s < states_of m → nat_lt 0 (number s) ≡ true → marked goals s ≡ false
  no_goal s h above = elim (cases_Bool (marked goals s)) [
    | inl is ↦ absurd (false≢true (sym (ap (λ k. nat_lt 0 k) (zero_at s h is)) ∙ above))
    | inr not ↦ not
  ]

  at_choice : (s c : ℕ) → s < states_of m → nat_lt 0 (number s) ≡ true → P s c → c < length (choices_at m s)
      → Any (λ y. (nat_lt 0 (number y.target) ≡ true) × (number y.target < number s)) (row_at m s c)
      ⊎ All (λ y. (nat_lt 0 (number y.target) ≡ true) × (number y.target ≡ number s)) (row_at m s c)
  at_choice s c h above p i = elim (fall s c h (no_goal s h above) p (ltb-true 0 (number s) above) i) [
    | inl enters ↦
        (let f = Any-from_list_any (λ (y : Entry). nat_lt 0 (number y.target) && nat_lt (number y.target) (number s)) (row_at m s c) enters in
        let v : ℕ = number (Entry.target f.1) in
        inl (f.0, f.1, f.2, f.3, (and-left (nat_lt 0 v) (nat_lt v (number s)) f.4, ltb-true v (number s) (and-right (nat_lt 0 v) (nat_lt v (number s)) f.4))))
    | inr same ↦ inr (λ k d l.
        (let e = eqb-true _ (number s) (list_all-at (λ (y : Entry). number y.target == number s) (row_at m s c) d same k l) in
        (ap (λ v. nat_lt 0 v) e ∙ above, e)))
  ]

  pub misses : (s : ℕ) → s < states_of m → 0 < number s → (q : ℕ) × (1 ≤ q) × ((n u : ℕ) (t : Tree) → 1 ≤ u → Keeps m P u n t s → hit m goals u n t s +ℚ part q ≤ℚ 1ℚ)
  misses s h above =
      misses_by_ranks m goals ok P (λ v. nat_lt 0 (number v)) number (λ v l g. ap (λ k. nat_lt 0 k) (zero_at v l g)) at_choice s h (lt-ltb 0 (number s) above)

-- ---- rounds_outside

goal_round : (m : Mdp) (goals : List Bool) (rounds : List ℕ) → AreRounds m goals rounds → (s : ℕ) → s < states_of m → marked goals s ≡ true → get_or rounds s 0 ≡ 0
goal_round m goals rounds a s h e =
    let r : ℕ = get_or rounds s 0 in
    let there = a.next r s h in
    let left : ((r == 0) || nat_lt (r + 1) r) ≡ true = there.1 (0, first-reached (inside_step m (left_after rounds r)) (marked goals) 0 s e) in
    elim (cases_Bool (r == 0)) [
      | inl is ↦ eqb-true r 0 is
      | inr not ↦ (let low = ltb-true (r + 1) r (sym (ap (λ b. b || nat_lt (r + 1) r) not) ∙ left) in absurd (omega (arith, low)))
    ]

pub trees_miss : TreesMiss
trees_miss m goals rounds ok a s h out =
    let w = misses m goals ok (HasChoice m) (λ v. get_or rounds v 0) (goal_round m goals rounds a) (λ v c l g p above i. rounds_fall m goals rounds ok a v c l above i) s h out in
    (w.0, w.1, λ n u t strategy. w.2 n u t strategy.mixes (keeps_of_Fits m u n t s strategy.fits))

-- ---- sure_all: the policy that goes to an avoiding state and stays there

-- a larger set is reached from more states
reached-larger : (m : Mdp) (goals : List Bool) (ok : IsMdp m) (p q : ℕ → Bool) → ((t : ℕ) → t < states_of m → p t ≡ true → q t ≡ true) → (k s : ℕ) → s < states_of m
    → reached (may_step m goals) p k s ≡ true → reached (may_step m goals) q k s ≡ true
unfolding reached
reached-larger m goals ok p q larger zero s h e = larger s h e
reached-larger m goals ok p q larger (suc k) s h e = elim (cases_Bool (reached (may_step m goals) p k s)) [
  | inl before ↦ ap (λ b. b || may_step m goals (reached (may_step m goals) q k) s) (reached-larger m goals ok p q larger k s h before)
  | inr new ↦
      (let set = reached (may_step m goals) p k in
      let stepped : may_step m goals set s ≡ true = sym (ap (λ b. b || may_step m goals set s) new) ∙ e in
      let w = list_any-at (λ (x : Choice). can_enter set x.row) (choices_at m s) no_choice (and-right (not (marked goals s)) (some_choice (can_enter set) m s) stepped) in
      let row = ok.row s w.0 h w.1 in
      let z = enters-at set (row_at m s w.0) (states_of m) row.in_range w.2 in
      let more = reached (may_step m goals) q k in
      step-reaches (may_step m goals) q k s
      (and-both (not (marked goals s)) (some_choice (can_enter more) m s) (and-left (not (marked goals s)) (some_choice (can_enter set) m s) stepped)
      (list_any-by (λ (x : Choice). can_enter more x.row) (choices_at m s) no_choice w.0 w.1 (enters-by more (row_at m s w.0) z.0 z.2 (reached-larger m goals ok p q larger k z.0 z.1 z.3)))))
]

-- a goal doesn't reach an avoiding state without passing a goal
goal-reaches-none : (m : Mdp) (goals avoiding : List Bool) → IsGreatestAvoiding m goals avoiding → (k s : ℕ) → s < states_of m → marked goals s ≡ true
    → reached (may_step m goals) (marked avoiding) k s ≡ true → false ≡ true
unfolding reached
goal-reaches-none m goals avoiding g zero s h e is = sym (g.avoiding.outside s h is) ∙ e
goal-reaches-none m goals avoiding g (suc k) s h e is = elim (cases_Bool (reached (may_step m goals) (marked avoiding) k s)) [
  | inl before ↦ goal-reaches-none m goals avoiding g k s h e before
  | inr new ↦
      (let set = reached (may_step m goals) (marked avoiding) k in
      let stepped : may_step m goals set s ≡ true = sym (ap (λ b. b || may_step m goals set s) new) ∙ is in
      ap not (sym e) ∙ and-left (not (marked goals s)) (some_choice (can_enter set) m s) stepped)
]

module _ (m : Mdp) (goals avoiding marks : List Bool) (keep ranks go : List ℕ) (ok : IsMdp m) (g : IsGreatestAvoiding m goals avoiding) (l : AreLeast m goals avoiding (keeps m avoiding) keep)
    (a : AreReached (may_step m goals) (marked avoiding) (states_of m) marks) (r : AreLeastRanks (may_step m goals) (marked avoiding) (states_of m) marks ranks)
    (w : AreLeast m avoiding marks (falls m marks ranks) go) where
  -- the rank and 1 at a marked state
  number : ℕ → ℕ
  number s = cond (marked marks s) (suc (get_or ranks s 0)) 0

  number-marked : (s : ℕ) → marked marks s ≡ true → number s ≡ suc (get_or ranks s 0)
  unfolding number
  number-marked s e = ap (λ b. cond b (suc (get_or ranks s 0)) 0) e

  number-other : (s : ℕ) → marked marks s ≡ false → number s ≡ 0
  unfolding number
  number-other s e = ap (λ b. cond b (suc (get_or ranks s 0)) 0) e

  avoiding-marked : (s : ℕ) → s < states_of m → marked avoiding s ≡ true → marked marks s ≡ true
  avoiding-marked s h e = let there = a.marks_reached s h in there.1 (0, first-reached (may_step m goals) (marked avoiding) 0 s e)

  avoiding-number : (s : ℕ) → s < states_of m → marked avoiding s ≡ true → number s ≡ 1
  avoiding-number s h e =
      let low = r.least s 0 h (first-reached (may_step m goals) (marked avoiding) 0 s e) in
      let is : get_or ranks s 0 ≡ 0 = omega (arith, low) in
      number-marked s (avoiding-marked s h e) ∙ ap suc is

  goal-number : (s : ℕ) → s < states_of m → marked goals s ≡ true → number s ≡ 0
  goal-number s h e = elim (cases_Bool (marked marks s)) [
    | inl is ↦ (let there = a.marks_reached s h in let k = there.0 is in absurd (false≢true (goal-reaches-none m goals avoiding g k.0 s h e k.1)))
    | inr not ↦ number-other s not
  ]

  policy-at : (s : ℕ) → s < states_of m → get_or (joined m avoiding keep go) s 0 ≡ cond (marked avoiding s) (get_or keep s 0) (get_or go s 0)
  policy-at s h = get_or-map-range_with_len (λ t. cond (marked avoiding t) (get_or keep t 0) (get_or go t 0)) 0 (states_of m) s s 0 h (omega arith)

  joined-in_range : (s : ℕ) → s < states_of m → get_or (joined m avoiding keep go) s 0 < length (choices_at m s)
  joined-in_range s h = elim (cases_Bool (marked avoiding s)) [
    | inl is ↦ subst (λ (c : ℕ). c < length (choices_at m s)) (sym (policy-at s h ∙ ap (λ b. cond b (get_or keep s 0) (get_or go s 0)) is)) (l.in_range s h)
    | inr not ↦ subst (λ (c : ℕ). c < length (choices_at m s)) (sym (policy-at s h ∙ ap (λ b. cond b (get_or keep s 0) (get_or go s 0)) not)) (w.in_range s h)
  ]

  is_policy : IsPolicy m (joined m avoiding keep go)
  is_policy = record {
    one_each = length-map-range_with_len (λ s. cond (marked avoiding s) (get_or keep s 0) (get_or go s 0)) 0 (states_of m);
    in_range = joined-in_range;
  }

  stays-one : (row : List Entry) → All (λ x. x.target < states_of m) row → stays_in (marked avoiding) row ≡ true → stays_in (λ t. number t == 1) row ≡ true
  stays-one row range kept = stays-more (marked avoiding) (λ t. number t == 1) row (states_of m) range (λ t h e. eq-eqb (number t) 1 (avoiding-number t h e)) kept

  number-falls : (s c : ℕ) → s < states_of m → marked goals s ≡ false → Follows (joined m avoiding keep go) s c → 0 < number s → c < length (choices_at m s)
      → (can_enter (λ t. nat_lt 0 (number t) && nat_lt (number t) (number s)) (row_at m s c) ≡ true) ⊎ (stays_in (λ t. number t == number s) (row_at m s c) ≡ true)
  number-falls s c h not_goal p above i = elim (cases_Bool (marked avoiding s)) [
    | inl is ↦
        (let at : get_or keep s 0 ≡ c = sym (p ∙ policy-at s h ∙ ap (λ b. cond b (get_or keep s 0) (get_or go s 0)) is) in
        let kept = subst (λ (d : ℕ). stays_in (marked avoiding) (row_at m s d) ≡ true) at
        (and-right (marked avoiding s) (stays_in (marked avoiding) (row_at m s (get_or keep s 0))) (l.passes s h is not_goal)) in
        inr (ap (λ n. stays_in (λ t. number t == n) (row_at m s c)) (avoiding-number s h is) ∙ stays-one (row_at m s c) (ok.row s c h i).in_range kept))
    | inr not ↦ (elim (cases_Bool (marked marks s)) [
      | inr out ↦ absurd (omega (arith, above, number-other s out))
      | inl in_marks ↦
          (let at : get_or go s 0 ≡ c = sym (p ∙ policy-at s h ∙ ap (λ b. cond b (get_or keep s 0) (get_or go s 0)) not) in
          let fall = subst (λ (d : ℕ). falls m marks ranks s d ≡ true) at (w.passes s h in_marks not) in
          let z = enters-at (λ t. marked marks t && nat_lt (get_or ranks t 0) (get_or ranks s 0)) (row_at m s c) (states_of m) (ok.row s c h i).in_range fall in
          let z_marked = and-left (marked marks z.0) (nat_lt (get_or ranks z.0 0) (get_or ranks s 0)) z.3 in
          let low = ltb-true (get_or ranks z.0 0) (get_or ranks s 0) (and-right (marked marks z.0) (nat_lt (get_or ranks z.0 0) (get_or ranks s 0)) z.3) in
          let nz = number-marked z.0 z_marked in
          let ns = number-marked s in_marks in
          inl (enters-by (λ t. nat_lt 0 (number t) && nat_lt (number t) (number s)) (row_at m s c) z.0 z.2
          (and-both (nat_lt 0 (number z.0)) (nat_lt (number z.0) (number s)) (lt-ltb 0 (number z.0) (omega (arith, nz))) (lt-ltb (number z.0) (number s) (omega (arith, nz, ns, low))))))
    ])
  ]

  joined-misses : (s : ℕ) → s < states_of m → marked marks s ≡ true → (q : ℕ) × (1 ≤ q) × ((n : ℕ) → hit m goals 1 n (unfolded m (joined m avoiding keep go) n s) s +ℚ part q ≤ℚ 1ℚ)
  joined-misses s h is =
      let v = misses m goals ok (Follows (joined m avoiding keep go)) number goal-number number-falls s h (omega (arith, number-marked s is)) in
      (v.0, v.1, λ n. v.2 n 1 (unfolded m (joined m avoiding keep go) n s) (omega arith) (keeps_unfolded m (joined m avoiding keep go) n s ok is_policy h))

pub joined_misses : JoinedMisses
joined_misses m goals sure avoiding marks keep ranks go ok all g l a r w s h out =
    let first = all.0 in
    let there = a.marks_reached s h in
    elim (cases_Bool (marked marks s)) [
      | inl is ↦ joined-misses m goals avoiding marks keep ranks go ok g l a r w s h is
      | inr not ↦
          (let never = all.2.never s h in
          absurd (false≢true (sym out ∙ never.1 (λ k. elim (cases_Bool (reached (may_step m goals) (marked first) k s)) [
            | inl is ↦ absurd (false≢true (sym not ∙ there.1 (k, reached-larger m goals ok (marked first) (marked avoiding) (λ t i e. g.greatest (marked first) all.1.avoiding t i e) k s h is)))
            | inr none ↦ none
          ]))))
    ]

-- Until is reaching a goal on the subsystem of the states that stay. On the subsystem the two are the same for each tree, since a state that
-- is cut is left in its loop for ever. Between the model and the subsystem trees are carried: as they are along states that stay, and with
-- the first choice of each state from any other state on. And a policy of the subsystem is one of the model as it stands, since its choice
-- at a state that is cut is 0.
use Rattle.std.proofs.Common.{◌≡◌, ℕ, zero, suc, ◌<◌, ◌≤◌, ⊎_elim, Bool, true, false, true≢false, ◌||◌, cond, eqb, List, [], ◌∷◌, length, get_or, refl, sym, ◌∙◌, ap, subst, arith, pos}
use Rattle.std.proofs.lemmas.Bool.{cases_Bool, ne_eqb}
use Rattle.mdp_math.specs.{Rational.{ℚ, ◌+ℚ◌, ◌*ℚ◌, ◌≤ℚ◌}, Sum.{sum_at, EachAt}}
use Rattle.mdp_math.proofs.{Ring.{◌⊕◌, ◌⊗◌, lit, ring}, Laws.{rat_ring}, Order.{0ℚ, 1ℚ, ≤ℚ_trans, ≤ℚ_of_eq}, SumsAt.{sum_at-same, EachAt_mono, EachAt_both}}
use Rattle.mdp_spec.specs.{Mdp.{Entry, Choice, Mdp, no_choice, states_of, choices_at, row_at, value_at}, Row.{IsRow, IsMdp}, Unit.{count_at}}
use Rattle.mdp_spec.specs.{Tree.{Tree, Fits, IsStrategy, IsPolicy, unfolded, target_at, is_marked}, Tree.Tree.{leaf, node}, Hit.{hit}}
use Rattle.mdp_spec.specs.{Sub.{loop_at, sub_of, policy_on}, Bounds.{ReachMax, ReachMin, part}, Between.{ReachMaxBetween, ReachMinBetween}, Rules.{MeetsReachMax, MeetsReachMin}}
use Rattle.mdp_spec.specs.{BetweenRules.{MeetsReachMaxBetween, MeetsReachMinBetween}, Until.{until, UntilMax, UntilMin, UntilMaxBetween, UntilMinBetween}}
use Rattle.mdp_spec.specs.UntilLaws.{IsCarried, UntilIsReach, ReachIsUntil, IsHitWhereAllStay, IsOneSubsystem, IsHitWhereKeptStay, UntilBySub, SubByUntil, UntilLies, UntilIsUnique}
use Rattle.mdp_spec.proofs.{Rows.{rows_known, placed, targets_at}, Hits.{share, hit-goal, hit-end, hit-node}, Untils.{until-goal, until-away, until-end, until-node}}
use Rattle.mdp_spec.proofs.{Keeping.{count_at-none, target_placed, unfolded_is_strategy}}
use Rattle.mdp_spec.proofs.Subsystem.{stays, stays-kept, sub-states, sub-stays, sub-loops, sub_is_mdp, sub-whole, sub-sub, policy_on-stays, policy_on_sub}
use Rattle.mdp_spec.proofs.Reach.{reach_max_between, reach_min_between, reach_max_exact, reach_min_exact, reach_max_between_of_rules, reach_min_between_of_rules, reach_max_of_rules, reach_min_of_rules}
use Rattle.mdp_spec.proofs.Reach.{reach_max_lies, reach_min_lies, reach_max_unique, reach_min_unique}

-- ---- averages by their places

abbrev average : List Choice → ℕ → (ℕ → ℕ) → (ℕ → ℕ → Entry → ℚ) → ℚ
average cs u weights f = sum_at cs (λ c x. share u weights c *ℚ sum_at x.row (λ e y. y.prob *ℚ f c e y))

average-same : (cs : List Choice) (u : ℕ) (weights other : ℕ → ℕ) (f g : ℕ → ℕ → Entry → ℚ)
    → EachAt cs (λ c x. (weights c ≡ other c) × EachAt x.row (λ e y. f c e y ≡ g c e y)) → average cs u weights f ≡ average cs u other g
average-same cs u weights other f g each =
    sum_at-same cs (λ c x. share u weights c *ℚ sum_at x.row (λ e y. y.prob *ℚ f c e y)) (λ c x. share u other c *ℚ sum_at x.row (λ e y. y.prob *ℚ g c e y))
    (EachAt_mono cs (λ c x. (weights c ≡ other c) × EachAt x.row (λ e y. f c e y ≡ g c e y))
    (λ c x. share u weights c *ℚ sum_at x.row (λ e y. y.prob *ℚ f c e y) ≡ share u other c *ℚ sum_at x.row (λ e y. y.prob *ℚ g c e y))
    (λ c x q.
    ap (λ (k : ℕ). share u (λ d. k) c *ℚ sum_at x.row (λ e y. y.prob *ℚ f c e y)) q.0
    ∙ ap (λ (w : ℚ). share u other c *ℚ w)
    (sum_at-same x.row (λ e y. y.prob *ℚ f c e y) (λ e y. y.prob *ℚ g c e y)
    (EachAt_mono x.row (λ e y. f c e y ≡ g c e y) (λ e y. y.prob *ℚ f c e y ≡ y.prob *ℚ g c e y) (λ e y r. ap (λ (w : ℚ). y.prob *ℚ w) r) q.1)))
    each)

-- ---- the first choice of each state, at each step

abbrev firsts : ℕ → ℕ → Tree
firsts u zero = leaf
firsts u (suc n) = node (λ c. cond (eqb 0 c) u 0) (λ c e. firsts u n)

count-firsts : (u : ℕ) (cs : List Choice) → 0 < length cs → count_at cs (λ c x. cond (eqb 0 c) u 0) ≡ u
count-firsts u [] h = absurd (omega arith)
count-firsts u (x ∷ cs) h = omega (arith, count_at-none cs (λ c a. cond (eqb 0 (suc c)) u 0) (λ i a. rw (ne_eqb 0 (suc i) (λ e. omega arith)) refl))

firsts_fit : (k : Mdp) (u n s : ℕ) → IsMdp k → s < states_of k → Fits k u n (firsts u n) s
firsts_fit k u zero s known h = tt
firsts_fit k u (suc n) s known h = (
  count-firsts u (choices_at k s) (known.choice s h),
  EachAt_mono (choices_at k s) (λ c x. IsRow (states_of k) x.row) (λ c x. EachAt x.row (λ e y. Fits k u n (firsts u n) y.target))
      (λ c x r. EachAt_mono x.row (λ e y. y.target < states_of k) (λ e y. Fits k u n (firsts u n) y.target) (λ e y l. firsts_fit k u n y.target known l) (targets_at (states_of k) x.row r))
      (rows_known k s known),
)

-- ---- two models that have the same choices at the states that stay

-- a tree as it is along states that stay, and the first choices from any other state on
abbrev turned : Mdp → (ℕ → Bool) → ℕ → ℕ → Tree → ℕ → Tree
turned m keeps u zero t s = leaf
turned m keeps u (suc n) leaf s = leaf
turned m keeps u (suc n) (node weights kids) s = cond (keeps s) (node weights (λ c e. turned m keeps u n (kids c e) (target_at m s c e))) (firsts u (suc n))

module _ (m k : Mdp) (stay goals : List Bool) (known : IsMdp m) (known_k : IsMdp k) (size : states_of m ≡ states_of k)
    (same : (s : ℕ) → s < states_of m → stays goals stay s ≡ true → choices_at m s ≡ choices_at k s) where
  -- a node at a state that stays, with the same weights and with trees behind it that come to the same
  node_same : (u n : ℕ) (weights other : ℕ → ℕ) (kids heirs : ℕ → ℕ → Tree) (s : ℕ) → 1 ≤ u → s < states_of m → is_marked goals s ≡ false → is_marked stay s ≡ true
      → EachAt (choices_at m s) (λ c x. (weights c ≡ other c) × EachAt x.row (λ e y. until m stay goals u n (kids c e) y.target ≡ until k stay goals u n (heirs c e) y.target))
      → until m stay goals u (suc n) (node weights kids) s ≡ until k stay goals u (suc n) (node other heirs) s
  node_same u n weights other kids heirs s hu h g a each =
      until-node m stay goals u n weights kids s known hu g a
      ∙ average-same (choices_at m s) u weights other (λ c e y. until m stay goals u n (kids c e) y.target) (λ c e y. until k stay goals u n (heirs c e) y.target) each
      ∙ ap (λ (cs : List Choice). average cs u other (λ c e y. until k stay goals u n (heirs c e) y.target)) (same s h (stays-kept goals stay s a))
      ∙ sym (until-node k stay goals u n other heirs s known_k hu g a)

  -- where the tree's value is given at once
  at_goal : (u n : ℕ) (t w : Tree) (s : ℕ) → 1 ≤ u → is_marked goals s ≡ true → until m stay goals u n t s ≡ until k stay goals u n w s
  at_goal u n t w s hu g = until-goal m stay goals u n t s hu g ∙ sym (until-goal k stay goals u n w s hu g)

  at_end : (u : ℕ) (t w : Tree) (s : ℕ) → 1 ≤ u → is_marked goals s ≡ false → until m stay goals u 0 t s ≡ until k stay goals u 0 w s
  at_end u t w s hu g = until-end m stay goals u t s hu g ∙ sym (until-end k stay goals u w s hu g)

  away : (u n : ℕ) (t w : Tree) (s : ℕ) → 1 ≤ u → is_marked goals s ≡ false → is_marked stay s ≡ false → until m stay goals u n t s ≡ until k stay goals u n w s
  away u n t w s hu g a = until-away m stay goals u n t s hu g a ∙ sym (until-away k stay goals u n w s hu g a)

  -- ---- trees

  abbrev keeps : ℕ → Bool
  keeps s = stays goals stay s

  -- where each entry leads, with what is known of the tree behind it
  known_behind : (u n s : ℕ) (kids : ℕ → ℕ → Tree) → EachAt (choices_at m s) (λ c x. EachAt x.row (λ e y. Fits m u n (kids c e) y.target))
      → EachAt (choices_at m s) (λ c x. EachAt x.row (λ e y. ((target_at m s c e ≡ y.target) × (y.target < states_of m)) × Fits m u n (kids c e) y.target))
  known_behind u n s kids fits =
      EachAt_mono (choices_at m s)
      (λ c x. (((c < length (choices_at m s)) × (row_at m s c ≡ x.row)) × IsRow (states_of m) x.row) × EachAt x.row (λ e y. Fits m u n (kids c e) y.target))
      (λ c x. EachAt x.row (λ e y. ((target_at m s c e ≡ y.target) × (y.target < states_of m)) × Fits m u n (kids c e) y.target))
      (λ c x q.
      EachAt_both x.row (λ e y. (target_at m s c e ≡ y.target) × (y.target < states_of m)) (λ e y. Fits m u n (kids c e) y.target)
      (EachAt_both x.row (λ e y. target_at m s c e ≡ y.target) (λ e y. y.target < states_of m) (target_placed m s c x.row q.0.0.1) (targets_at (states_of m) x.row q.0.1)) q.1)
      (EachAt_both (choices_at m s) (λ c x. ((c < length (choices_at m s)) × (row_at m s c ≡ x.row)) × IsRow (states_of m) x.row)
      (λ c x. EachAt x.row (λ e y. Fits m u n (kids c e) y.target))
      (EachAt_both (choices_at m s) (λ c x. (c < length (choices_at m s)) × (row_at m s c ≡ x.row)) (λ c x. IsRow (states_of m) x.row) (placed m s) (rows_known m s known)) fits)

  abbrev heirs_of : ℕ → ℕ → (ℕ → ℕ → Tree) → ℕ → ℕ → ℕ → Tree
  heirs_of u n kids s c e = turned m keeps u n (kids c e) (target_at m s c e)

  turned_fits : (u n : ℕ) (t : Tree) (s : ℕ) → s < states_of m → Fits m u n t s → Fits k u n (turned m keeps u n t s) s
  turned_fits u zero t s h fits = tt
  turned_fits u (suc n) leaf s h fits = absurd fits
  turned_fits u (suc n) (node weights kids) s h fits =
      ⊎_elim
      (λ e.
      subst (λ (b : Bool). Fits k u (suc n) (cond b (node weights (heirs_of u n kids s)) (firsts u (suc n))) s) (sym e) (
        subst (λ (cs : List Choice). count_at cs (λ c x. weights c) ≡ u) (same s h e) fits.0,
        subst (λ (cs : List Choice). EachAt cs (λ c x. EachAt x.row (λ e y. Fits k u n (heirs_of u n kids s c e) y.target))) (same s h e)
            (EachAt_mono (choices_at m s)
            (λ c x. EachAt x.row (λ e y. ((target_at m s c e ≡ y.target) × (y.target < states_of m)) × Fits m u n (kids c e) y.target))
            (λ c x. EachAt x.row (λ e y. Fits k u n (heirs_of u n kids s c e) y.target))
            (λ c x q.
            EachAt_mono x.row (λ e y. ((target_at m s c e ≡ y.target) × (y.target < states_of m)) × Fits m u n (kids c e) y.target) (λ e y. Fits k u n (heirs_of u n kids s c e) y.target)
            (λ e y r. subst (λ (v : ℕ). Fits k u n (turned m keeps u n (kids c e) v) y.target) (sym r.0.0) (turned_fits u n (kids c e) y.target r.0.1 r.1)) q)
            (known_behind u n s kids fits.1)),
      ))
      (λ e.
      subst (λ (b : Bool). Fits k u (suc n) (cond b (node weights (heirs_of u n kids s)) (firsts u (suc n))) s) (sym e)
      (firsts_fit k u (suc n) s known_k (subst (λ (i : ℕ). s < i) size h)))
      (cases_Bool (keeps s))

  turned_same : (u n : ℕ) (t : Tree) (s : ℕ) → 1 ≤ u → s < states_of m → Fits m u n t s → until m stay goals u n t s ≡ until k stay goals u n (turned m keeps u n t s) s
  turned_same u zero t s hu h fits = ⊎_elim (λ g. at_goal u 0 t leaf s hu g) (λ g. at_end u t leaf s hu g) (cases_Bool (is_marked goals s))
  turned_same u (suc n) leaf s hu h fits = absurd fits
  turned_same u (suc n) (node weights kids) s hu h fits =
      ⊎_elim (λ g. at_goal u (suc n) (node weights kids) (turned m keeps u (suc n) (node weights kids) s) s hu g)
      (λ g. ⊎_elim
      (λ a.
      node_same u n weights weights kids (heirs_of u n kids s) s hu h g a
      (EachAt_mono (choices_at m s)
      (λ c x. EachAt x.row (λ e y. ((target_at m s c e ≡ y.target) × (y.target < states_of m)) × Fits m u n (kids c e) y.target))
      (λ c x. (weights c ≡ weights c) × EachAt x.row (λ e y. until m stay goals u n (kids c e) y.target ≡ until k stay goals u n (heirs_of u n kids s c e) y.target))
      (λ c x q. (
        refl,
        EachAt_mono x.row (λ e y. ((target_at m s c e ≡ y.target) × (y.target < states_of m)) × Fits m u n (kids c e) y.target)
            (λ e y. until m stay goals u n (kids c e) y.target ≡ until k stay goals u n (heirs_of u n kids s c e) y.target)
            (λ e y r.
            turned_same u n (kids c e) y.target hu r.0.1 r.1 ∙ ap (λ (v : ℕ). until k stay goals u n (turned m keeps u n (kids c e) v) y.target) (sym r.0.0)) q,
      ))
      (known_behind u n s kids fits.1))
      ∙ ap (λ (b : Bool). until k stay goals u (suc n) (cond b (node weights (heirs_of u n kids s)) (firsts u (suc n))) s) (sym (stays-kept goals stay s a)))
      (λ a. away u (suc n) (node weights kids) (turned m keeps u (suc n) (node weights kids) s) s hu g a)
      (cases_Bool (is_marked stay s)))
      (cases_Bool (is_marked goals s))

  untils_carried : IsCarried m k (until m stay goals) (until k stay goals)
  untils_carried n u t s h tree =
      (turned m keeps u n t s, record { mixes = tree.mixes; fits = turned_fits u n t s h tree.fits }, turned_same u n t s tree.mixes h tree.fits)

  -- ---- policies that agree at the states that stay

  module _ (p q : List ℕ) (agree : (s : ℕ) → s < states_of m → is_marked goals s ≡ false → is_marked stay s ≡ true → get_or p s 0 ≡ get_or q s 0) where
    policies_same : (n s : ℕ) → s < states_of m → until m stay goals 1 n (unfolded m p n s) s ≡ until k stay goals 1 n (unfolded k q n s) s
    policies_same zero s h = ⊎_elim (λ g. at_goal 1 0 leaf leaf s (omega arith) g) (λ g. at_end 1 leaf leaf s (omega arith) g) (cases_Bool (is_marked goals s))
    policies_same (suc n) s h =
        ⊎_elim (λ g. at_goal 1 (suc n) (unfolded m p (suc n) s) (unfolded k q (suc n) s) s (omega arith) g)
        (λ g. ⊎_elim
        (λ a.
        node_same 1 n (λ c. cond (eqb (get_or p s 0) c) 1 0) (λ c. cond (eqb (get_or q s 0) c) 1 0) (λ c e. unfolded m p n (target_at m s c e)) (λ c e. unfolded k q n (target_at k s c e))
        s (omega arith) h g a
        (EachAt_mono (choices_at m s)
        (λ c x. ((c < length (choices_at m s)) × (row_at m s c ≡ x.row)) × IsRow (states_of m) x.row)
        (λ c x. (cond (eqb (get_or p s 0) c) 1 0 ≡ cond (eqb (get_or q s 0) c) 1 0)
        × EachAt x.row (λ e y. until m stay goals 1 n (unfolded m p n (target_at m s c e)) y.target ≡ until k stay goals 1 n (unfolded k q n (target_at k s c e)) y.target))
        (λ c x r. (
          ap (λ (d : ℕ). cond (eqb d c) 1 0) (agree s h g a),
          EachAt_mono x.row (λ e y. ((target_at m s c e ≡ y.target) × (target_at k s c e ≡ y.target)) × (y.target < states_of m))
              (λ e y. until m stay goals 1 n (unfolded m p n (target_at m s c e)) y.target ≡ until k stay goals 1 n (unfolded k q n (target_at k s c e)) y.target)
              (λ e y i.
              ap (λ (v : ℕ). until m stay goals 1 n (unfolded m p n v) y.target) i.0.0
              ∙ policies_same n y.target i.1
              ∙ ap (λ (v : ℕ). until k stay goals 1 n (unfolded k q n v) y.target) (sym i.0.1))
              (EachAt_both x.row (λ e y. (target_at m s c e ≡ y.target) × (target_at k s c e ≡ y.target)) (λ e y. y.target < states_of m)
              (EachAt_both x.row (λ e y. target_at m s c e ≡ y.target) (λ e y. target_at k s c e ≡ y.target) (target_placed m s c x.row r.0.1)
              (target_placed k s c x.row (ap (λ (cs : List Choice). Choice.row (get_or cs c no_choice)) (sym (same s h (stays-kept goals stay s a))) ∙ r.0.1)))
              (targets_at (states_of m) x.row r.1)),
        ))
        (EachAt_both (choices_at m s) (λ c x. (c < length (choices_at m s)) × (row_at m s c ≡ x.row)) (λ c x. IsRow (states_of m) x.row) (placed m s) (rows_known m s known))))
        (λ a. away 1 (suc n) (unfolded m p (suc n) s) (unfolded k q (suc n) s) s (omega arith) g a)
        (cases_Bool (is_marked stay s)))
        (cases_Bool (is_marked goals s))

-- ---- on the subsystem

neither : (a b : Bool) → a || b ≡ false → a ≡ false
neither true b e = absurd (true≢false e)
neither false b e = refl

either_by : (a b c : Bool) → (b ≡ true → c ≡ true) → a ≡ false → c ≡ false → a || b ≡ false
either_by true b c h g e = absurd (true≢false g)
either_by false true c h g e = absurd (true≢false (sym (h refl) ∙ e))
either_by false false c h g e = refl

module _ (m : Mdp) (goals kept : List Bool) (known : IsMdp m) where
  abbrev kept_sub : Mdp
  kept_sub = sub_of m goals kept

  kept_known : IsMdp kept_sub
  kept_known = sub_is_mdp m goals kept known

  -- a state that is cut never meets a goal
  lost : (u n : ℕ) (t : Tree) (s : ℕ) → 1 ≤ u → s < states_of m → stays goals kept s ≡ false → Fits kept_sub u n t s → hit kept_sub goals u n t s ≡ 0ℚ
  lost u zero t s hu h e fits = hit-end kept_sub goals u t s hu (neither (is_marked goals s) (is_marked kept s) e)
  lost u (suc n) leaf s hu h e fits = absurd fits
  lost u (suc n) (node weights kids) s hu h e fits =
      let loops : choices_at kept_sub s ≡ loop_at m.names s ∷ [] = sub-loops m goals kept s h e in
      let behind : Fits kept_sub u n (kids 0 0) s = (subst (λ (cs : List Choice). EachAt cs (λ c x. EachAt x.row (λ i y. Fits kept_sub u n (kids c i) y.target))) loops fits.1).0.0 in
      hit-node kept_sub goals u n weights kids s kept_known hu (neither (is_marked goals s) (is_marked kept s) e)
      ∙ ap (λ (cs : List Choice). average cs u weights (λ c i y. hit kept_sub goals u n (kids c i) y.target)) loops
      ∙ ap (λ (x : ℚ). share u weights 0 *ℚ (1ℚ *ℚ x +ℚ 0ℚ) +ℚ 0ℚ) (lost u n (kids 0 0) s hu h e behind)
      ∙ ring rat_ring 1 (λ a. a ⊗ (lit (pos 1) ⊗ lit (pos 0) ⊕ lit (pos 0)) ⊕ lit (pos 0)) (λ a. lit (pos 0)) refl (share u weights 0)

  -- so there until is the probability of meeting a goal, where each state that is kept stays
  pub until_kept : (stay : List Bool) → ((s : ℕ) → s < states_of m → is_marked kept s ≡ true → is_marked stay s ≡ true) → (u n : ℕ) (t : Tree) (s : ℕ) → 1 ≤ u → s < states_of m
      → Fits kept_sub u n t s → until kept_sub stay goals u n t s ≡ hit kept_sub goals u n t s
  until_kept stay inc u zero t s hu h fits =
      ⊎_elim (λ g. until-goal kept_sub stay goals u 0 t s hu g ∙ sym (hit-goal kept_sub goals u 0 t s hu g))
      (λ g. until-end kept_sub stay goals u t s hu g ∙ sym (hit-end kept_sub goals u t s hu g))
      (cases_Bool (is_marked goals s))
  until_kept stay inc u (suc n) leaf s hu h fits = absurd fits
  until_kept stay inc u (suc n) (node weights kids) s hu h fits =
      ⊎_elim (λ g. until-goal kept_sub stay goals u (suc n) (node weights kids) s hu g ∙ sym (hit-goal kept_sub goals u (suc n) (node weights kids) s hu g))
      (λ g. ⊎_elim
      (λ a.
      until-node kept_sub stay goals u n weights kids s kept_known hu g a
      ∙ average-same (choices_at kept_sub s) u weights weights (λ c e y. until kept_sub stay goals u n (kids c e) y.target) (λ c e y. hit kept_sub goals u n (kids c e) y.target)
      (EachAt_mono (choices_at kept_sub s) (λ c x. IsRow (states_of kept_sub) x.row × EachAt x.row (λ e y. Fits kept_sub u n (kids c e) y.target))
      (λ c x. (weights c ≡ weights c) × EachAt x.row (λ e y. until kept_sub stay goals u n (kids c e) y.target ≡ hit kept_sub goals u n (kids c e) y.target))
      (λ c x q. (
        refl,
        EachAt_mono x.row (λ e y. (y.target < states_of kept_sub) × Fits kept_sub u n (kids c e) y.target)
            (λ e y. until kept_sub stay goals u n (kids c e) y.target ≡ hit kept_sub goals u n (kids c e) y.target)
            (λ e y r. until_kept stay inc u n (kids c e) y.target hu (subst (λ (k : ℕ). y.target < k) (sub-states m goals kept) r.0) r.1)
            (EachAt_both x.row (λ e y. y.target < states_of kept_sub) (λ e y. Fits kept_sub u n (kids c e) y.target) (targets_at (states_of kept_sub) x.row q.0) q.1),
      ))
      (EachAt_both (choices_at kept_sub s) (λ c x. IsRow (states_of kept_sub) x.row) (λ c x. EachAt x.row (λ e y. Fits kept_sub u n (kids c e) y.target)) (rows_known kept_sub s kept_known) fits.1))
      ∙ sym (hit-node kept_sub goals u n weights kids s kept_known hu g))
      (λ a.
      until-away kept_sub stay goals u (suc n) (node weights kids) s hu g a
      ∙ sym (lost u (suc n) (node weights kids) s hu h (either_by (is_marked goals s) (is_marked kept s) (is_marked stay s) (inc s h) g a) fits))
      (cases_Bool (is_marked stay s)))
      (cases_Bool (is_marked goals s))

module _ (m : Mdp) (stay goals : List Bool) (known : IsMdp m) where
  abbrev sub : Mdp
  sub = sub_of m goals stay

  sub_known : IsMdp sub
  sub_known = sub_is_mdp m goals stay known

  size : states_of sub ≡ states_of m
  size = sub-states m goals stay

  inside : (s : ℕ) → s < states_of m → s < states_of sub
  inside s h = subst (λ (n : ℕ). s < n) (sym size) h

  outside : (s : ℕ) → s < states_of sub → s < states_of m
  outside s h = subst (λ (n : ℕ). s < n) size h

  pub until_there : (u n : ℕ) (t : Tree) (s : ℕ) → 1 ≤ u → s < states_of m → Fits sub u n t s → until sub stay goals u n t s ≡ hit sub goals u n t s
  until_there u n t s hu h fits = until_kept m goals stay known stay (λ v i e. e) u n t s hu h fits

  -- ---- trees

  there : (s : ℕ) → s < states_of m → stays goals stay s ≡ true → choices_at m s ≡ choices_at sub s
  there s h e = sym (sub-stays m goals stay s h e)

  back : (s : ℕ) → s < states_of sub → stays goals stay s ≡ true → choices_at sub s ≡ choices_at m s
  back s h e = sub-stays m goals stay s (outside s h) e

  carried_there : IsCarried m sub (until m stay goals) (hit sub goals)
  carried_there n u t s h tree =
      let w = untils_carried m sub stay goals known sub_known (sym size) there n u t s h tree in
      (w.0, w.1, w.2 ∙ until_there u n w.0 s tree.mixes h (IsStrategy.fits w.1))

  carried_back : IsCarried sub m (hit sub goals) (until m stay goals)
  carried_back n u t s h tree =
      let w = untils_carried sub m stay goals sub_known known size back n u t s h tree in
      (w.0, w.1, sym (until_there u n t s tree.mixes (outside s h) tree.fits) ∙ w.2)

  -- ---- policies

  only : (c n : ℕ) → c < n → n ≡ 1 → c ≡ 0
  only c n l e = omega (arith, l, e)

  -- a policy of the subsystem has choice 0 at each state that is cut, so it is one of the model
  pub policy_of_sub : (policy : List ℕ) → IsPolicy sub policy → IsPolicy m policy
  policy_of_sub policy p = record {
    one_each = p.one_each ∙ size;
    in_range = λ s h.
        ⊎_elim (λ e. subst (λ (cs : List Choice). get_or policy s 0 < length cs) (sub-stays m goals stay s h e) (p.in_range s (inside s h)))
        (λ e. subst (λ (c : ℕ). c < length (choices_at m s)) (sym (only (get_or policy s 0) (length (choices_at sub s)) (p.in_range s (inside s h)) (ap length (sub-loops m goals stay s h e))))
        (known.choice s h))
        (cases_Bool (stays goals stay s));
  }

  -- policies of the model and of the subsystem that agree at the states that stay come to the same
  pub policy_there : (p q : List ℕ) → IsPolicy sub q → ((s : ℕ) → s < states_of m → is_marked goals s ≡ false → is_marked stay s ≡ true → get_or p s 0 ≡ get_or q s 0)
      → (n s : ℕ) → s < states_of m → until m stay goals 1 n (unfolded m p n s) s ≡ hit sub goals 1 n (unfolded sub q n s) s
  policy_there p q is agree n s h =
      policies_same m sub stay goals known sub_known (sym size) there p q agree n s h
      ∙ until_there 1 n (unfolded sub q n s) s (omega arith) h (IsStrategy.fits (unfolded_is_strategy sub q n s sub_known is (inside s h)))

  -- ---- values and a policy

  module _ (lower upper : List ℚ) (policy : List ℕ) where
    pub until_max_of_sub : ReachMaxBetween sub goals lower upper policy → UntilMaxBetween m stay goals lower upper policy
    until_max_of_sub r = record {
      takes = policy_of_sub policy r.takes;
      above = λ n u t s h tree. let w = carried_there n u t s h tree in ≤ℚ_trans _ _ _ (≤ℚ_of_eq _ _ w.2) (r.above.above n u w.0 s (inside s h) w.1);
      close = λ s k h hk.
          let c = r.close s k (inside s h) hk in
          (c.0, subst (λ (x : ℚ). value_at lower s ≤ℚ x +ℚ part k) (sym (policy_there policy policy r.takes (λ v i g a. refl) c.0 s h)) c.1);
    }

    pub until_min_of_sub : ReachMinBetween sub goals lower upper policy → UntilMinBetween m stay goals lower upper policy
    until_min_of_sub r = record {
      takes = policy_of_sub policy r.takes;
      below = λ n s h. ≤ℚ_trans _ _ _ (≤ℚ_of_eq _ _ (policy_there policy policy r.takes (λ v i g a. refl) n s h)) (r.below n s (inside s h));
      close = λ s k h hk.
          let c = r.close s k (inside s h) hk in (
            c.0,
            λ d u t l tree. let w = carried_there d u t s h tree in subst (λ (x : ℚ). value_at lower s ≤ℚ x +ℚ part k) (sym w.2) (c.1 d u w.0 l w.1),
          );
    }

    abbrev on_sub : List ℕ
    on_sub = policy_on goals stay policy

    agrees : (s : ℕ) → s < states_of m → is_marked goals s ≡ false → is_marked stay s ≡ true → get_or policy s 0 ≡ get_or on_sub s 0
    agrees s h g a = sym (policy_on-stays goals stay policy s (stays-kept goals stay s a))

    pub sub_of_until_max : UntilMaxBetween m stay goals lower upper policy → ReachMaxBetween sub goals lower upper on_sub
    sub_of_until_max r =
        let is : IsPolicy sub on_sub = policy_on_sub m goals stay policy r.takes in
        record {
          takes = is;
          above = record {
            above = λ n u t s h tree. let w = carried_back n u t s h tree in ≤ℚ_trans _ _ _ (≤ℚ_of_eq _ _ w.2) (r.above n u w.0 s (outside s h) w.1);
          };
          close = λ s k h hk.
              let c = r.close s k (outside s h) hk in
              (c.0, subst (λ (x : ℚ). value_at lower s ≤ℚ x +ℚ part k) (policy_there policy on_sub is agrees c.0 s (outside s h)) c.1);
        }

    pub sub_of_until_min : UntilMinBetween m stay goals lower upper policy → ReachMinBetween sub goals lower upper on_sub
    sub_of_until_min r =
        let is : IsPolicy sub on_sub = policy_on_sub m goals stay policy r.takes in
        record {
          takes = is;
          below = λ n s h. ≤ℚ_trans _ _ _ (≤ℚ_of_eq _ _ (sym (policy_there policy on_sub is agrees n s (outside s h)))) (r.below n s (outside s h));
          close = λ s k h hk.
              let c = r.close s k (outside s h) hk in (
                c.0,
                λ d u t l tree. let w = carried_back d u t s h tree in subst (λ (x : ℚ). value_at lower s ≤ℚ x +ℚ part k) (sym w.2) (c.1 d u w.0 l w.1),
              );
        }

    -- ---- what the rules of a certificate on the subsystem show

    module _ (ranks : List ℕ) where
      pub until_max_between_of_rules : MeetsReachMaxBetween sub goals lower upper policy ranks → UntilMaxBetween m stay goals lower upper policy
      until_max_between_of_rules r = until_max_of_sub (reach_max_between_of_rules sub goals lower upper policy ranks sub_known r)

      pub until_min_between_of_rules : MeetsReachMinBetween sub goals lower upper policy ranks → UntilMinBetween m stay goals lower upper policy
      until_min_between_of_rules r = until_min_of_sub (reach_min_between_of_rules sub goals lower upper policy ranks sub_known r)

  module _ (z : List ℚ) (policy : List ℕ) where
    pub until_max_exact : ReachMax sub goals z policy → UntilMax m stay goals z policy
    until_max_exact r = until_max_of_sub z z policy (reach_max_between sub goals z policy r)

    pub until_min_exact : ReachMin sub goals z policy → UntilMin m stay goals z policy
    until_min_exact r = until_min_of_sub z z policy (reach_min_between sub goals z policy r)

    pub sub_of_until_max_exact : UntilMax m stay goals z policy → ReachMax sub goals z (policy_on goals stay policy)
    sub_of_until_max_exact r = reach_max_exact sub goals z (policy_on goals stay policy) (sub_of_until_max z z policy r)

    pub sub_of_until_min_exact : UntilMin m stay goals z policy → ReachMin sub goals z (policy_on goals stay policy)
    sub_of_until_min_exact r = reach_min_exact sub goals z (policy_on goals stay policy) (sub_of_until_min z z policy r)

    module _ (ranks : List ℕ) where
      pub until_max_of_rules : MeetsReachMax sub goals z policy ranks → UntilMax m stay goals z policy
      until_max_of_rules r = until_max_exact (reach_max_of_rules sub goals z policy ranks sub_known r)

      pub until_min_of_rules : MeetsReachMin sub goals z policy ranks → UntilMin m stay goals z policy
      until_min_of_rules r = until_min_exact (reach_min_of_rules sub goals z policy ranks sub_known r)

-- ---- the laws

pub until_is_reach : UntilIsReach
until_is_reach m stay goals known = carried_there m stay goals known

pub reach_is_until : ReachIsUntil
reach_is_until m stay goals known = carried_back m stay goals known

pub until_by_sub : UntilBySub
until_by_sub m stay goals lower upper policy known = (until_max_of_sub m stay goals known lower upper policy, until_min_of_sub m stay goals known lower upper policy)

pub sub_by_until : SubByUntil
sub_by_until m stay goals lower upper policy known = (sub_of_until_max m stay goals known lower upper policy, sub_of_until_min m stay goals known lower upper policy)

pub until_lies : UntilLies
until_lies m stay goals lower upper z policy other s known h = (
  λ r t.
      reach_max_lies (sub_of m goals stay) goals (sub_is_mdp m goals stay known) lower upper z (policy_on goals stay policy) (policy_on goals stay other) s
      (sub_of_until_max m stay goals known lower upper policy r) (sub_of_until_max_exact m stay goals known z other t) (inside m stay goals known s h),
  λ r t.
      reach_min_lies (sub_of m goals stay) goals (sub_is_mdp m goals stay known) lower upper z (policy_on goals stay policy) (policy_on goals stay other) s
      (sub_of_until_min m stay goals known lower upper policy r) (sub_of_until_min_exact m stay goals known z other t) (inside m stay goals known s h),
)

pub until_is_unique : UntilIsUnique
until_is_unique m stay goals z w policy other s known h = (
  λ r t.
      reach_max_unique (sub_of m goals stay) goals (sub_is_mdp m goals stay known) z w (policy_on goals stay policy) (policy_on goals stay other) s
      (sub_of_until_max_exact m stay goals known z policy r) (sub_of_until_max_exact m stay goals known w other t) (inside m stay goals known s h),
  λ r t.
      reach_min_unique (sub_of m goals stay) goals (sub_is_mdp m goals stay known) z w (policy_on goals stay policy) (policy_on goals stay other) s
      (sub_of_until_min_exact m stay goals known z policy r) (sub_of_until_min_exact m stay goals known w other t) (inside m stay goals known s h),
)

-- where each state stays the subsystem is the model
pub until_is_hit : IsHitWhereAllStay
until_is_hit m stay goals u n t s known all h tree =
    let whole : sub_of m goals stay ≡ m = sub-whole m goals stay (λ v i. stays-kept goals stay v (all v i)) in
    subst (λ (k : Mdp). until k stay goals u n t s ≡ hit k goals u n t s) whole
    (until_there m stay goals known u n t s tree.mixes h (subst (λ (k : Mdp). Fits k u n t s) (sym whole) tree.fits))

pub until_is_hit_kept : IsHitWhereKeptStay
until_is_hit_kept m stay goals kept u n t s known inc h tree = until_kept m goals kept known stay inc u n t s tree.mixes h tree.fits

pub one_subsystem : IsOneSubsystem
one_subsystem m stay goals kept inc = sub-sub m goals stay kept inc

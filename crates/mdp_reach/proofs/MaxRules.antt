-- What the path of the greatest probability finds meets the rules: no choice is better, its own gives the value, and its ranks fall along states of
-- value above 0.
use Rattle.std.proofs.Common.{◌≡◌, ℕ, zero, suc, ◌<◌, inl, inr, Bool, true, false, List, length, refl, sym, ◌∙◌, subst, arith}
use Rattle.std.proofs.lemmas.List.Folds.{list_any-from_Any}
use Rattle.std.specs.{List.{All, Any}, Prelude.{slice_index}}
use Rattle.mdp_math.specs.Rational.{ℚ, ◌≤ℚ◌, ◌<ℚ◌}
use Rattle.mdp_math.proofs.{Booleans.{false_of_not}, Order.{0ℚ, 1ℚ, ≤ℚ_trans, ≤ℚ_of_eq, ≤ℚ_of_lt, clash_ℚ}, Kernel.{Any-and, weigh-pos}, Whole.{one-pos}}
use Rattle.mdp_spec.specs.{Mdp.{Mdp, Entry, states_of, row_at, choices_at, value_at}, Row.{IsMdp, row_sum}, Rules.{AreProbabilities, RanksEnd, MeetsReachMax}}
use Rattle.mdp_spec.specs.Tree.{is_marked}
use Rattle.mdp_spec.specs.Tree as tree
use Rattle.mdp_rows.specs.declared.dir.Dir.TheVariants.{Max}
use Rattle.mdp_graph.specs.{Sets.{marked, can_enter}, Layers.{reached}, Laws.{RestStays, RowsFall, RowsStay}}
use Rattle.mdp_policy_iteration.specs.{Problem.{Problem}, Laws.{IsBestFrom}}
use Rattle.mdp_policy_iteration.proofs.Chain.{target, prob}
use Rattle.mdp_reach.specs.{Problem.{reach_problem}, Query.{none_blocked, IsMaxStart, AreMaxRanks}}
use Rattle.mdp_reach.proofs.{Policies.{active-open, open-row}, Starts.{least-policy}}
use Rattle.mdp_reach.proofs.Chances.{goal-value, closed-value, open-value, nonneg, at-most_one, sum-nonneg, sum-zero, outside-zero}
use Rattle.mdp_reach.proofs.{Kept.{found-policy, no-better}, Rows.{none_in, some-false, no_mark, goal-along, goal-rank, row-falls, row-stays}}
use Rattle.mdp_rows.proofs.Queries.Policies.{row-known}

module _ (m : Mdp) (goals marks : List Bool) (start policy ranks : List ℕ) (x : List ℚ) (model : IsMdp m) (start_is : IsMaxStart m goals marks start)
    (found : IsBestFrom (reach_problem Max m goals marks) start policy x) (along : AreMaxRanks m goals policy ranks)
    (rest : RestStays) (falls : RowsFall) (stays : RowsStay) where
  abbrev q : Problem
  q = reach_problem Max m goals marks

  abbrev z : ℕ → ℚ
  z = value_at x

  is_policy : tree.IsPolicy m policy
  is_policy = found-policy Max m goals marks start policy x (least-policy m goals marks _ start start_is.choices) found

  abbrev row : ℕ → List Entry
  row s = row_at m s (slice_index policy s)

  abbrev rank : ℕ → ℕ
  rank s = slice_index ranks s

  value_nonneg : (s : ℕ) → 0ℚ ≤ℚ z s
  value_nonneg = nonneg Max m goals marks model policy found.best.is found.best.leaves x found.best.values

  goal_one : (s : ℕ) → s < states_of m → is_marked goals s ≡ true → z s ≡ 1ℚ
  goal_one = goal-value Max m goals marks model policy found.best.is found.best.leaves x found.best.values

  open_sum : (s : ℕ) → s < states_of m → is_marked goals s ≡ false → is_marked marks s ≡ true → z s ≡ row_sum (row s) x
  open_sum = open-value Max m goals marks model policy found.best.is found.best.leaves x found.best.values

  -- ---- a state that isn't open leads to such states alone

  goal_open : (s : ℕ) → s < states_of m → is_marked goals s ≡ true → is_marked marks s ≡ true
  unfolding reached
  goal_open s l g = (start_is.reached.marks_reached s l).1 (0, g)

  closed_zero : (t : ℕ) → t < states_of m → is_marked marks t ≡ false → z t ≡ 0ℚ
  closed_zero t l e =
      closed-value Max m goals marks model policy found.best.is found.best.leaves x found.best.values t l
      (false_of_not (is_marked goals t) (λ g. let k : true ≡ false = sym (goal_open t l g) ∙ e in cc)) e

  closed_enters : (s c : ℕ) → s < states_of m → is_marked marks s ≡ false → c < length (choices_at m s) → can_enter (marked marks) (row_at m s c) ≡ false
  closed_enters s c l e i = some-false (can_enter (marked marks)) m s c i (rest m goals (none_blocked m) marks model start_is.reached s l e (no_mark (states_of m) s))

  closed_sum : (s c : ℕ) → s < states_of m → is_marked marks s ≡ false → c < length (choices_at m s) → row_sum (row_at m s c) x ≤ℚ 0ℚ
  closed_sum s c l e i =
      let r = model.row s c l i in
      sum-zero (states_of m) (row_at m s c) r z (λ k d j. ≤ℚ_of_eq _ _ (closed_zero _ (r.in_range k d j) (none_in (marked marks) (row_at m s c) (closed_enters s c l e i) k d j)))

  -- ---- along the policy exactly the states of value above 0 come to a goal

  opened : (s : ℕ) (b : Bool) → is_marked marks s ≡ b → s < states_of m → Any (λ y. is_marked marks y.target ≡ true) (row s) → is_marked marks s ≡ true
  opened s true e l a = e
  opened s false e l a =
      absurd (let k : true ≡ false = sym (list_any-from_Any (λ (y : Entry). is_marked marks y.target) (row s) a) ∙ closed_enters s (slice_index policy s) l e (is_policy.in_range s l) in cc)

  any_mono : (P Q : Entry → Type 0) (es : List Entry) → ((y : Entry) → P y → Q y) → Any P es → Any Q es
  any_mono P Q es f h = (h.0, h.1, h.2, h.3, f h.1 h.4)

  -- a state that comes to a goal is open or a goal, and has a value above 0
  abbrev Comes : ℕ → Type 0
  Comes s = (is_marked marks s ≡ true) × (0ℚ <ℚ z s)

  entry_pos : (s : ℕ) → s < states_of m → All (λ y. 0ℚ <ℚ y.prob) (row s)
  entry_pos s l = (row-known m policy model is_policy s l).distribution.positive

  comes_by : (k s : ℕ) (g : Bool) → s < states_of m → rank s < suc k → is_marked goals s ≡ g → marked along.marks s ≡ true
      → ((t : ℕ) → t < states_of m → rank t < k → marked along.marks t ≡ true → Comes t) → Comes s
  comes_by k s true l i eg e ih = (goal_open s l eg, subst (λ (v : ℚ). 0ℚ <ℚ v) (sym (goal_one s l eg)) one-pos)
  comes_by k s false l i eg e ih =
      let a = row-falls m policy model is_policy goals ranks along falls s l e eg in
      let b = any_mono (λ y. (y.target < states_of m) × (marked along.marks y.target ≡ true) × (rank y.target < rank s)) (λ y. Comes y.target) (row s)
      (λ y h. ih y.target h.0 (omega (arith, h.2)) h.1) a in
      let o = opened s (is_marked marks s) refl l (any_mono (λ y. Comes y.target) (λ y. is_marked marks y.target ≡ true) (row s) (λ y h. h.0) b) in
      let positive = any_mono (λ y. (0ℚ <ℚ y.prob) × Comes y.target) (λ y. (0ℚ <ℚ y.prob) × (0ℚ <ℚ z y.target)) (row s) (λ y h. (h.0, h.1.1))
      (Any-and (λ y. 0ℚ <ℚ y.prob) (λ y. Comes y.target) (row s) (entry_pos s l) b) in (
        o,
        subst (λ (v : ℚ). 0ℚ <ℚ v) (sym (open_sum s l eg o)) (weigh-pos target prob z (row s) (λ k d j. ≤ℚ_of_lt 0ℚ _ (entry_pos s l k d j)) value_nonneg positive),
      )

  comes_within : (k s : ℕ) → s < states_of m → rank s < k → marked along.marks s ≡ true → Comes s
  comes_within zero s l i e = absurd (omega arith)
  comes_within (suc k) s l i e = comes_by k s (is_marked goals s) l i refl e (comes_within k)

  above_zero : (s : ℕ) → s < states_of m → marked along.marks s ≡ true → 0ℚ <ℚ z s
  above_zero s l e = (comes_within (suc (rank s)) s l (omega arith) e).1

  -- and any other has the value 0
  zero_outside : (s : ℕ) → marked along.marks s ≡ false → z s ≤ℚ 0ℚ
  zero_outside s e =
      outside-zero Max m goals marks model policy found.best.is found.best.leaves x found.best.values (marked along.marks)
      (λ t l g. goal-along m policy model is_policy goals ranks along t l g)
      (λ t a f.
      let o = active-open Max m goals marks policy found.best.is t a in
      subst (λ (es : List Entry). All (λ y. marked along.marks y.target ≡ false) es) (sym (open-row Max m goals marks policy found.best.is t o))
      (row-stays m policy model is_policy goals ranks along stays t o.below f))
      s e

  along_of : (s : ℕ) (b : Bool) → marked along.marks s ≡ b → 0ℚ <ℚ z s → marked along.marks s ≡ true
  along_of s true e h = e
  along_of s false e h = absurd (clash_ℚ 0ℚ (z s) h (zero_outside s e))

  -- ---- the rules

  probabilities : AreProbabilities m goals x
  probabilities = record {
    at_least_zero = λ s l. value_nonneg s;
    at_most_one = λ s l. at-most_one Max m goals marks model policy found.best.is found.best.leaves x found.best.values s;
    at_goal = goal_one;
  }

  covers_by : (s c : ℕ) (o : Bool) → s < states_of m → is_marked goals s ≡ false → is_marked marks s ≡ o → c < length (choices_at m s) → row_sum (row_at m s c) x ≤ℚ z s
  covers_by s c true l g e i = no-better Max m goals marks start policy x (least-policy m goals marks _ start start_is.choices) found s c l g e i
  covers_by s c false l g e i = ≤ℚ_trans _ _ _ (closed_sum s c l e i) (value_nonneg s)

  reached_by : (s : ℕ) (o : Bool) → s < states_of m → is_marked goals s ≡ false → is_marked marks s ≡ o → z s ≤ℚ row_sum (row s) x
  reached_by s true l g e = ≤ℚ_of_eq _ _ (open_sum s l g e)
  reached_by s false l g e =
      ≤ℚ_trans _ _ _ (≤ℚ_of_eq _ _ (closed_zero s l e)) (sum-nonneg (states_of m) (row s) (row-known m policy model is_policy s l) x value_nonneg)

  zero_rank : (s : ℕ) (b : Bool) → s < states_of m → marked along.marks s ≡ b → z s ≡ 0ℚ → rank s ≡ 0
  zero_rank s true l e h = absurd (clash_ℚ 0ℚ (z s) (above_zero s l e) (≤ℚ_of_eq _ _ h))
  zero_rank s false l e h = along.least.zero s l e

  ends : RanksEnd m goals x ranks
  ends s l (inl g) = goal-rank m policy model is_policy goals ranks along s l g
  ends s l (inr h) = zero_rank s (marked along.marks s) l refl h

  pub meets-max : MeetsReachMax m goals x policy ranks
  meets-max = record {
    choices = is_policy;
    probabilities = probabilities;
    covers = λ s c l g i. covers_by s c (is_marked marks s) l g refl i;
    reached = λ s l g. reached_by s (is_marked marks s) l g refl;
    ends = ends;
    falls = λ s l g h.
        any_mono (λ y. (y.target < states_of m) × (marked along.marks y.target ≡ true) × (rank y.target < rank s)) (λ y. (0ℚ <ℚ z y.target) × (rank y.target < rank s)) (row s)
        (λ y k. (above_zero y.target k.0 k.1, k.2))
        (row-falls m policy model is_policy goals ranks along falls s l (along_of s (marked along.marks s) refl h) g);
  }

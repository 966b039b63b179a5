-- What the path of the least probability finds meets the rules: no choice is better, its own gives the value, and on each choice of a state of value
-- above 0 the ranks fall.
use Rattle.std.proofs.Common.{◌≡◌, ℕ, zero, suc, ◌<◌, inl, inr, Bool, true, false, not, ◌||◌, List, length, refl, sym, ◌∙◌, ap, subst, arith, zero-add}
use Rattle.std.proofs.{lemmas.List.FromFn.{get_or-map-range_with_len}, lemmas.List.Folds.{Any-from_list_any}}
use Rattle.std.specs.{List.{Any}, Prelude.{slice_index}}
use Rattle.mdp_math.specs.Rational.{ℚ, lt_ℚ, ◌≤ℚ◌, ◌<ℚ◌}
use Rattle.mdp_math.proofs.{Booleans.{and-right, false_of_not, not_true}, Order.{0ℚ, ≤ℚ_trans, ≤ℚ_of_eq}, Kernel.{Any-and}}
use Rattle.mdp_spec.specs.{Mdp.{Mdp, Entry, states_of, row_at, choices_at, value_at}, Row.{IsMdp, row_sum}, Rules.{RanksEnd, MeetsReachMin}, Tree.{is_marked}}
use Rattle.mdp_spec.specs.Tree as tree
use Rattle.mdp_rows.proofs.{Either.{or_left, or_right}, Queries.Policies.{row-known}}
use Rattle.mdp_rows.specs.declared.dir.Dir.TheVariants.{Min}
use Rattle.mdp_graph.specs.{Sets.{marked, can_enter, stays_in}, Layers.{reached}, Meet.{must_step}, Avoid.{keeps}, Laws.{RestAvoids}}
use Rattle.mdp_policy_iteration.specs.Laws.{IsBestFrom}
use Rattle.mdp_policy_iteration.proofs.LeavesAgain.{test_of_lt, test_irrefl}
use Rattle.mdp_reach.specs.{Problem.{reach_problem}, Query.{IsMinStart, AreMinRanks, ending}}
use Rattle.mdp_reach.proofs.{Starts.{least-policy}, Chances.{goal-value, closed-value, open-value, nonneg, at-most_one, sum-nonneg, sum-zero}}
use Rattle.mdp_reach.proofs.{Kept.{found-policy, closed-kept, no-better}, Rows.{all_in, each-true}}

module _ (m : Mdp) (goals marks : List Bool) (start policy ranks : List ℕ) (x : List ℚ) (model : IsMdp m) (start_is : IsMinStart m goals marks start)
    (found : IsBestFrom (reach_problem Min m goals marks) start policy x) (meet : AreMinRanks m goals x ranks) (rest : RestAvoids) where
  abbrev z : ℕ → ℚ
  z = value_at x

  is_policy : tree.IsPolicy m policy
  is_policy = found-policy Min m goals marks start policy x (least-policy m goals marks _ start start_is.choices) found

  abbrev row : ℕ → List Entry
  row s = row_at m s (slice_index policy s)

  abbrev rank : ℕ → ℕ
  rank s = slice_index ranks s

  value_nonneg : (s : ℕ) → 0ℚ ≤ℚ z s
  value_nonneg = nonneg Min m goals marks model policy found.best.is found.best.leaves x found.best.values

  open_sum : (s : ℕ) → s < states_of m → is_marked goals s ≡ false → is_marked marks s ≡ false → z s ≡ row_sum (row s) x
  open_sum s l g e = open-value Min m goals marks model policy found.best.is found.best.leaves x found.best.values s l g (ap not e)

  -- ---- where goals can be avoided they are

  avoiding_zero : (t : ℕ) → t < states_of m → is_marked marks t ≡ true → z t ≡ 0ℚ
  avoiding_zero t l e = closed-value Min m goals marks model policy found.best.is found.best.leaves x found.best.values t l (start_is.avoids.avoiding.outside t l e) (ap not e)

  avoiding_sum : (s : ℕ) → s < states_of m → is_marked goals s ≡ false → is_marked marks s ≡ true → row_sum (row s) x ≤ℚ 0ℚ
  avoiding_sum s l g e =
      let same : slice_index policy s ≡ slice_index start s = closed-kept Min m goals marks start policy x (least-policy m goals marks _ start start_is.choices) found s l g (ap not e) in
      let kept : keeps m marks s (slice_index policy s) ≡ true = subst (λ (c : ℕ). keeps m marks s c ≡ true) (sym same) (start_is.choices.passes s l e g) in
      let r = row-known m policy model is_policy s l in
      sum-zero (states_of m) (row s) r z (λ k d j. ≤ℚ_of_eq _ _
      (avoiding_zero _ (r.in_range k d j) (all_in (marked marks) (row s) (and-right (marked marks s) (stays_in (marked marks) (row s)) kept) k d j)))

  -- ---- each state meets a goal or a state of value 0, whatever is chosen

  abbrev targets : List Bool
  targets = ending m goals x

  target-is : (s : ℕ) → s < states_of m → marked targets s ≡ (is_marked goals s || not (lt_ℚ 0ℚ (z s)))
  target-is s l = get_or-map-range_with_len (λ s. is_marked goals s || not (lt_ℚ 0ℚ (z s))) 0 (states_of m) s s false l (zero-add s)

  goal_target : (s : ℕ) → s < states_of m → is_marked goals s ≡ true → marked targets s ≡ true
  goal_target s l g = target-is s l ∙ or_left (is_marked goals s) (not (lt_ℚ 0ℚ (z s))) g

  zero_target : (s : ℕ) → s < states_of m → z s ≡ 0ℚ → marked targets s ≡ true
  zero_target s l e =
      target-is s l ∙ or_right (is_marked goals s) (not (lt_ℚ 0ℚ (z s))) (ap not (ap (lt_ℚ 0ℚ) e ∙ test_irrefl 0ℚ))

  no_target : (s : ℕ) → s < states_of m → is_marked goals s ≡ false → 0ℚ <ℚ z s → marked targets s ≡ false
  no_target s l g h = target-is s l ∙ ap (λ (b : Bool). b || not (lt_ℚ 0ℚ (z s))) g ∙ ap not (test_of_lt 0ℚ (z s) h)

  target_marked : (s : ℕ) → s < states_of m → marked targets s ≡ true → marked meet.marks s ≡ true
  unfolding reached
  target_marked s l e = (meet.reached.marks_reached s l).1 (0, e)

  -- the states that don't, if there are any, could avoid the goals
  abbrev left : ℕ → Bool
  left s = not (marked meet.marks s)

  all_by : (s : ℕ) (b : Bool) → s < states_of m → marked meet.marks s ≡ b → marked meet.marks s ≡ true
  all_by s true l e = e
  all_by s false l e =
      target_marked s l (zero_target s l (avoiding_zero s l (start_is.avoids.greatest left (record {
        outside = λ t i h. false_of_not (is_marked goals t) (λ g. let k : true ≡ false = sym (target_marked t i (goal_target t i g)) ∙ not_true (marked meet.marks t) h in cc);
        stays = λ t i h. rest m targets meet.marks model meet.reached t i (not_true (marked meet.marks t) h);
      }) s l (ap not e))))

  all_marked : (s : ℕ) → s < states_of m → marked meet.marks s ≡ true
  all_marked s l = all_by s (marked meet.marks s) l refl

  -- ---- so the ranks fall on each choice

  or_other : (a b : Bool) → (a || b) ≡ true → a ≡ false → b ≡ true
  or_other true b h e = cc
  or_other false b h e = h

  falls_by : (s k c : ℕ) → s < states_of m → rank s ≡ k → reached (must_step m) (marked targets) k s ≡ true → marked targets s ≡ false → c < length (choices_at m s)
      → Any (λ y. rank y.target < k) (row_at m s c)
  unfolding reached
  falls_by s zero c l e h n i = absurd (let f : true ≡ false = sym h ∙ n in cc)
  falls_by s (suc k) c l e h n i =
      let before : reached (must_step m) (marked targets) k s ≡ false = false_of_not _ (λ f. let g = meet.least.least s k l f in omega arith) in
      let each : must_step m (reached (must_step m) (marked targets) k) s ≡ true = or_other (reached (must_step m) (marked targets) k s) _ h before in
      let enters : can_enter (reached (must_step m) (marked targets) k) (row_at m s c) ≡ true = each-true (can_enter (reached (must_step m) (marked targets) k)) m s c i each in
      let a = Any-and (λ y. y.target < states_of m) (λ y. reached (must_step m) (marked targets) k y.target ≡ true) (row_at m s c) (model.row s c l i).in_range
      (Any-from_list_any (λ (y : Entry). reached (must_step m) (marked targets) k y.target) (row_at m s c) enters) in
      let t = Entry.target a.1 in
      (a.0, a.1, a.2, a.3, (let g = meet.least.least t k a.4.0 a.4.1 in omega arith))

  falls_at : (s c : ℕ) → s < states_of m → is_marked goals s ≡ false → 0ℚ <ℚ z s → c < length (choices_at m s) → Any (λ y. rank y.target < rank s) (row_at m s c)
  falls_at s c l g h i = falls_by s (rank s) c l refl (meet.least.reaches s l (all_marked s l)) (no_target s l g h) i

  -- ---- the rules

  covered_by : (s c : ℕ) (o : Bool) → s < states_of m → is_marked goals s ≡ false → is_marked marks s ≡ o → c < length (choices_at m s) → z s ≤ℚ row_sum (row_at m s c) x
  covered_by s c true l g e i = ≤ℚ_trans _ _ _ (≤ℚ_of_eq _ _ (avoiding_zero s l e)) (sum-nonneg (states_of m) (row_at m s c) (model.row s c l i) x value_nonneg)
  covered_by s c false l g e i = no-better Min m goals marks start policy x (least-policy m goals marks _ start start_is.choices) found s c l g (ap not e) i

  reached_by : (s : ℕ) (o : Bool) → s < states_of m → is_marked goals s ≡ false → is_marked marks s ≡ o → row_sum (row s) x ≤ℚ z s
  reached_by s true l g e = ≤ℚ_trans _ _ _ (avoiding_sum s l g e) (value_nonneg s)
  reached_by s false l g e = ≤ℚ_of_eq _ _ (sym (open_sum s l g e))

  target_rank : (s : ℕ) → s < states_of m → marked targets s ≡ true → rank s ≡ 0
  unfolding reached
  target_rank s l e = let h = meet.least.least s 0 l e in omega arith

  ends : RanksEnd m goals x ranks
  ends s l (inl g) = target_rank s l (goal_target s l g)
  ends s l (inr h) = target_rank s l (zero_target s l h)

  pub meets-min : MeetsReachMin m goals x policy ranks
  meets-min = record {
    choices = is_policy;
    probabilities = record {
      at_least_zero = λ s l. value_nonneg s;
      at_most_one = λ s l. at-most_one Min m goals marks model policy found.best.is found.best.leaves x found.best.values s;
      at_goal = goal-value Min m goals marks model policy found.best.is found.best.leaves x found.best.values;
    };
    covered = λ s c l g i. covered_by s c (is_marked marks s) l g refl i;
    reached = λ s l g. reached_by s (is_marked marks s) l g refl;
    ends = ends;
    falls = λ s c l g h i. falls_at s c l g h i;
  }

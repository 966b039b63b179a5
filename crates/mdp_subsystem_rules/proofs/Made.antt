-- Certificates that are made so meet the rules: values and ranks of the least probability on the subsystem are a floor, and the expected visits
-- of a policy are a flow.
use Rattle.std.proofs.Common.{◌≡◌, ℕ, zero, suc, ◌<◌, inl, inr, ⊎_elim, Bool, true, false, ◌||◌, cond, eqb, map, List, [], ◌∷◌, get_or, length, refl, sym, ◌∙◌, ap, subst, arith, pos}
use Rattle.std.proofs.{lemmas.Bool.{cases_Bool}, lemmas.List.Elements.{All-nil, All-cons}}
use Rattle.std.specs.List.{All, Any, filter, range_with_len}
use Rattle.mdp_math.specs.{Rational.{ℚ, of_int, lt_ℚ, ◌+ℚ◌, ◌*ℚ◌, ◌≤ℚ◌, ◌<ℚ◌}, Sum.{sum_of}}
use Rattle.mdp_math.proofs.{Laws.{zero-+ℚ, zero-*ℚ, *ℚ_comm}, Order.{0ℚ, 1ℚ, ≤ℚ_trans, ≤ℚ_of_eq, ≤ℚ_antisymm, <ℚ_irrefl, ≤ℚ_or_gt}, Kernel.{All-head, All-tail}}
use Rattle.mdp_math.proofs.Sums.{sum_of-same}
use Rattle.mdp_spec.specs.{Mdp.{Entry, Choice, Mdp, no_choice, states_of, choices_at, row_at, value_at}, Row.{IsMdp}, Tree.{is_marked, IsPolicy}}
use Rattle.mdp_spec.specs.{Sub.{sub_of, loop_at, policy_on}, Rules.{AreProbabilities, MeetsReachMin}}
use Rattle.mdp_spec.proofs.{Above.{row_weigh}, Subsystem.{stays-kept, sub-states, sub-stays, sub-loops, stays-row}}
use Rattle.mdp_subsystem_rules.specs.Floor.{counted_value, counted_rank, MeetsFloor}
use Rattle.mdp_subsystem_rules.specs.Flow.{IsFlow, MeetsFlow, prob_to, prob_to_goals, flow_row, outflow, inflow, goal_flow, flow_value, source}
use Rattle.mdp_subsystem_rules.specs.{Visits.{AreVisitsOn, visit_flow, visit_flows}, Policy.{AreOfPolicy, hit_on}}
use Rattle.mdp_claims.specs.declared.subsystem.Flow.{Flow}
use Rattle.mdp_subsystem_rules.proofs.{Bounded.{hit_on-le_flow}, Floors.{as_kept, as_neither, lt_of_test, le_of_no_test}, Extremal.{row_weigh-same}}
use Rattle.mdp_subsystem_rules.proofs.{Flows.{eqb_sym}, Gather.{All-range, sum_of-only}}

-- ---- a floor

as_goal : {A : Type 0} (g k : Bool) (x y z : A) → g ≡ true → cond g x (cond k y z) ≡ x
as_goal g k x y z e = ap (λ (b : Bool). cond b x (cond k y z)) e

neither_stays : (g k : Bool) → g ≡ false → k ≡ false → g || k ≡ false
neither_stays g k e f = ap (λ (b : Bool). b || k) e ∙ f

-- a loop leads to no smaller rank
pub loop_falls : (names : List (List ℕ)) (s : ℕ) (rank : ℕ → ℕ) → Any (λ y. rank y.target < rank s) (Choice.row (get_or (loop_at names s ∷ []) 0 no_choice)) → ⊥
loop_falls names s rank any = loop_by any.0 any.1 any.2 any.3 any.4
  where
    loop_by : (k : ℕ) (y : Entry) → k < 1 → get_or (record { target = s; prob = of_int (pos 1) } ∷ []) k y ≡ y → rank y.target < rank s → ⊥
    loop_by zero y l e q = let same : rank y.target ≡ rank s = ap (λ (x : Entry). rank x.target) (sym e) in omega (arith, q, same)
    loop_by (suc k) y l e q = absurd (omega arith)

module _ (m : Mdp) (goals kept : List Bool) (z : List ℚ) (policy ranks : List ℕ) (start : ℕ) (threshold : ℚ) (known_ : IsMdp m) (h : start < states_of m)
    (no_goal : (s : ℕ) → s < states_of m → is_marked kept s ≡ true → is_marked goals s ≡ false)
    (r : MeetsReachMin (sub_of m goals kept) goals z policy ranks) (reached : threshold ≤ℚ value_at z start) where
  abbrev sub : Mdp
  sub = sub_of m goals kept

  inside_back : (s : ℕ) → s < states_of m → s < states_of sub
  inside_back s l = subst (λ (n : ℕ). s < n) (sym (sub-states m goals kept)) l

  -- a state that is left with its loop has the value 0
  lost_value : (s : ℕ) → s < states_of m → is_marked goals s ≡ false → is_marked kept s ≡ false → value_at z s ≡ 0ℚ
  lost_value s l g k = elim (≤ℚ_or_gt (value_at z s) 0ℚ) as (λ _. value_at z s ≡ 0ℚ) [
    | inl le ↦ ≤ℚ_antisymm (value_at z s) 0ℚ le (AreProbabilities.at_least_zero r.probabilities s (inside_back s l))
    | inr p ↦
        let loops = sub-loops m goals kept s l (neither_stays (is_marked goals s) (is_marked kept s) g k) in
        absurd (loop_falls m.names s (λ v. get_or ranks v 0)
        (subst (λ (cs : List Choice). Any (λ y. get_or ranks y.target 0 < get_or ranks s 0) (Choice.row (get_or cs 0 no_choice))) loops
        (r.falls s 0 (inside_back s l) g p (subst (λ (cs : List Choice). 0 < length cs) (sym loops) (omega arith)))))
  ]

  value_is : (s : ℕ) → s < states_of m → counted_value goals kept z s ≡ value_at z s
  value_is s l =
      ⊎_elim (λ g. as_goal (is_marked goals s) (is_marked kept s) 1ℚ (value_at z s) 0ℚ g ∙ sym (AreProbabilities.at_goal r.probabilities s (inside_back s l) g))
      (λ g. ⊎_elim (λ k. as_kept (is_marked goals s) (is_marked kept s) 1ℚ (value_at z s) 0ℚ g k)
      (λ k. as_neither (is_marked goals s) (is_marked kept s) 1ℚ (value_at z s) 0ℚ g k ∙ sym (lost_value s l g k)) (cases_Bool (is_marked kept s)))
      (cases_Bool (is_marked goals s))

  rank_is : (s : ℕ) → s < states_of m → counted_rank goals kept ranks s ≡ get_or ranks s 0
  rank_is s l =
      ⊎_elim (λ g. as_goal (is_marked goals s) (is_marked kept s) 0 (get_or ranks s 0) 0 g ∙ sym (r.ends s (inside_back s l) (inl g)))
      (λ g. ⊎_elim (λ k. as_kept (is_marked goals s) (is_marked kept s) 0 (get_or ranks s 0) 0 g k)
      (λ k. as_neither (is_marked goals s) (is_marked kept s) 0 (get_or ranks s 0) 0 g k ∙ sym (r.ends s (inside_back s l) (inr (lost_value s l g k)))) (cases_Bool (is_marked kept s)))
      (cases_Bool (is_marked goals s))

  sub_has : (s c : ℕ) → s < states_of m → is_marked kept s ≡ true → c < length (choices_at m s) → c < length (choices_at sub s)
  sub_has s c l k i = subst (λ (cs : List Choice). c < length cs) (sym (sub-stays m goals kept s l (stays-kept goals kept s k))) i

  -- the values and ranks of the least probability on the subsystem are a floor
  pub floor_of_reach_min : MeetsFloor m goals kept z ranks start threshold
  floor_of_reach_min = record {
    no_goal = no_goal;
    at_least_zero = λ s l k. AreProbabilities.at_least_zero r.probabilities s (inside_back s l);
    at_most_one = λ s l k. AreProbabilities.at_most_one r.probabilities s (inside_back s l);
    covered = λ s c l k i.
        ≤ℚ_trans _ _ _
        (subst (λ (row : List Entry). value_at z s ≤ℚ row_weigh (value_at z) row) (stays-row m goals kept s c l (stays-kept goals kept s k))
        (r.covered s c (inside_back s l) (no_goal s l k) (sub_has s c l k i)))
        (≤ℚ_of_eq _ _ (row_weigh-same (states_of m) (row_at m s c) (value_at z) (counted_value goals kept z) (known_.row s c l i) (λ v j. sym (value_is v j))));
    ends = λ s l k e. r.ends s (inside_back s l) (inr e);
    falls = λ s c l k p i.
        let any = subst (λ (row : List Entry). Any (λ y. get_or ranks y.target 0 < get_or ranks s 0) row)
        (stays-row m goals kept s c l (stays-kept goals kept s k)) (r.falls s c (inside_back s l) (no_goal s l k) p (sub_has s c l k i)) in
        let target : Entry.target any.1 < states_of m = subst (λ (y : Entry). y.target < states_of m) any.3 ((known_.row s c l i).in_range any.0 any.1 any.2) in
        (any.0, any.1, any.2, any.3, subst (λ (x : ℕ). x < get_or ranks s 0) (sym (rank_is (Entry.target any.1) target)) any.4);
    reached = ≤ℚ_trans _ _ _ reached (≤ℚ_of_eq _ _ (sym (value_is start h)));
  }

-- ---- a flow

-- the flows of amount above 0
abbrev flows_of : List ℕ → List ℚ → List ℕ → List Flow
flows_of policy y states = filter (λ f. lt_ℚ 0ℚ f.amount) (map (visit_flow policy y) states)

-- what holds of each such flow
kept_flows : (P : Flow → Type 0) (policy : List ℕ) (y : List ℚ) (states : List ℕ) → All (λ s. lt_ℚ 0ℚ (value_at y s) ≡ true → P (visit_flow policy y s)) states → All P (flows_of policy y states)
kept_flows P policy y [] h = All-nil P
kept_flows P policy y (s ∷ states) h =
    next (lt_ℚ 0ℚ (value_at y s)) (All-head (λ t. lt_ℚ 0ℚ (value_at y t) ≡ true → P (visit_flow policy y t)) s states h)
    (kept_flows P policy y states (All-tail (λ t. lt_ℚ 0ℚ (value_at y t) ≡ true → P (visit_flow policy y t)) s states h))
  where
    next : (b : Bool) → (b ≡ true → P (visit_flow policy y s)) → All P (flows_of policy y states) → All P (cond b (visit_flow policy y s ∷ flows_of policy y states) (flows_of policy y states))
    next true h rest = All-cons P (visit_flow policy y s) (flows_of policy y states) (h refl) rest
    next false h rest = rest

-- their sum is that of all, where nothing is added by an amount of 0
flow_sum : (F : Flow → ℚ) (policy : List ℕ) (y : List ℚ) (states : List ℕ) → All (λ s. lt_ℚ 0ℚ (value_at y s) ≡ false → F (visit_flow policy y s) ≡ 0ℚ) states
    → sum_of F (flows_of policy y states) ≡ sum_of (λ s. F (visit_flow policy y s)) states
flow_sum F policy y [] h = refl
flow_sum F policy y (s ∷ states) h =
    next (lt_ℚ 0ℚ (value_at y s)) (All-head (λ t. lt_ℚ 0ℚ (value_at y t) ≡ false → F (visit_flow policy y t) ≡ 0ℚ) s states h)
    ∙ ap (λ (u : ℚ). F (visit_flow policy y s) +ℚ u) (flow_sum F policy y states (All-tail (λ t. lt_ℚ 0ℚ (value_at y t) ≡ false → F (visit_flow policy y t) ≡ 0ℚ) s states h))
  where
    next : (b : Bool) → (b ≡ false → F (visit_flow policy y s) ≡ 0ℚ)
        → sum_of F (cond b (visit_flow policy y s ∷ flows_of policy y states) (flows_of policy y states)) ≡ F (visit_flow policy y s) +ℚ sum_of F (flows_of policy y states)
    next true h = refl
    next false h = sym (zero-+ℚ (sum_of F (flows_of policy y states))) ∙ ap (λ (u : ℚ). u +ℚ sum_of F (flows_of policy y states)) (sym (h refl))

none_of : (b : Bool) (x : ℚ) → x ≡ 0ℚ → cond b x 0ℚ ≡ 0ℚ
none_of true x e = e
none_of false x e = refl

module _ (m : Mdp) (goals kept : List Bool) (policy : List ℕ) (start : ℕ) (y : List ℚ) (known_ : IsMdp m) (choice : IsPolicy m policy) (visits : AreVisitsOn m kept policy start y) where
  abbrev made : List Flow
  made = visit_flows (states_of m) policy y

  no_amount : (s : ℕ) → s < states_of m → lt_ℚ 0ℚ (value_at y s) ≡ false → value_at y s ≡ 0ℚ
  no_amount s l e = ≤ℚ_antisymm (value_at y s) 0ℚ (le_of_no_test 0ℚ (value_at y s) e) (visits.nonneg s l)

  -- the sum over the flows of a number of their rows is that over the states, each with its policy's row
  row_sum_is : (g : List Entry → ℚ) → sum_of (λ (f : Flow). f.amount *ℚ g (flow_row m f)) made ≡ sum_of (λ s. value_at y s *ℚ g (row_at m s (get_or policy s 0))) (range_with_len 0 (states_of m))
  row_sum_is g =
      flow_sum (λ (f : Flow). f.amount *ℚ g (flow_row m f)) policy y (range_with_len 0 (states_of m))
      (All-range (λ s. lt_ℚ 0ℚ (value_at y s) ≡ false → value_at y s *ℚ g (row_at m s (get_or policy s 0)) ≡ 0ℚ) (states_of m)
      (λ s l e. ap (λ (x : ℚ). x *ℚ g (row_at m s (get_or policy s 0))) (no_amount s l e) ∙ zero-*ℚ (g (row_at m s (get_or policy s 0)))))

  inflow_is : (s : ℕ) → inflow m made s ≡ sum_of (λ t. prob_to (row_at m t (get_or policy t 0)) s *ℚ value_at y t) (range_with_len 0 (states_of m))
  inflow_is s =
      row_sum_is (λ row. prob_to row s)
      ∙ sum_of-same (λ t. value_at y t *ℚ prob_to (row_at m t (get_or policy t 0)) s) (λ t. prob_to (row_at m t (get_or policy t 0)) s *ℚ value_at y t) (range_with_len 0 (states_of m))
      (λ t. *ℚ_comm (value_at y t) (prob_to (row_at m t (get_or policy t 0)) s))

  outflow_is : (s : ℕ) → s < states_of m → outflow made s ≡ value_at y s
  outflow_is s h =
      flow_sum (λ (f : Flow). cond (eqb f.state s) f.amount 0ℚ) policy y (range_with_len 0 (states_of m))
      (All-range (λ t. lt_ℚ 0ℚ (value_at y t) ≡ false → cond (eqb t s) (value_at y t) 0ℚ ≡ 0ℚ) (states_of m) (λ t l e. none_of (eqb t s) (value_at y t) (no_amount t l e)))
      ∙ sum_of-same (λ t. cond (eqb t s) (value_at y t) 0ℚ) (λ t. cond (eqb s t) (value_at y t) 0ℚ) (range_with_len 0 (states_of m)) (λ t. ap (λ (b : Bool). cond b (value_at y t) 0ℚ) (eqb_sym t s))
      ∙ sum_of-only (λ t. value_at y t) s (states_of m) h

  -- what the flows bring to the goals
  pub goal_flow_is : goal_flow m goals made ≡ sum_of (λ s. value_at y s *ℚ prob_to_goals goals (row_at m s (get_or policy s 0))) (range_with_len 0 (states_of m))
  goal_flow_is = row_sum_is (λ row. prob_to_goals goals row)

  is_flow : (s : ℕ) → s < states_of m → lt_ℚ 0ℚ (value_at y s) ≡ true → IsFlow m kept (visit_flow policy y s)
  is_flow s l e = record {
    keeps = ⊎_elim (λ k. k) (λ k. absurd (<ℚ_irrefl 0ℚ (subst (λ (x : ℚ). 0ℚ <ℚ x) (visits.outside s l k) (lt_of_test 0ℚ (value_at y s) e)))) (cases_Bool (is_marked kept s));
    choice = choice.in_range s l;
    positive = lt_of_test 0ℚ (value_at y s) e;
  }

  -- what leaves a kept state is what comes in
  pub visits_balanced : (s : ℕ) → s < states_of m → is_marked kept s ≡ true → outflow (visit_flows (states_of m) policy y) s ≡ source start s +ℚ inflow m (visit_flows (states_of m) policy y) s
  visits_balanced s l k = outflow_is s l ∙ visits.inside s l k ∙ ap (λ (x : ℚ). source start s +ℚ x) (sym (inflow_is s))

  pub visits_each : All (IsFlow m kept) (visit_flows (states_of m) policy y)
  visits_each = kept_flows (IsFlow m kept) policy y (range_with_len 0 (states_of m)) (All-range (λ s. lt_ℚ 0ℚ (value_at y s) ≡ true → IsFlow m kept (visit_flow policy y s)) (states_of m) is_flow)

  -- the visits' flows meet the rules, at each threshold that they bring to the goals
  pub flow_of_visits : (threshold : ℚ) → ((s : ℕ) → s < states_of m → is_marked kept s ≡ true → is_marked goals s ≡ false)
      → threshold ≤ℚ flow_value m goals (visit_flows (states_of m) policy y) start
      → MeetsFlow m goals kept (visit_flows (states_of m) policy y) start threshold
  flow_of_visits threshold no_goal reached = record {
    no_goal = no_goal;
    each = visits_each;
    balanced = λ s l k. ≤ℚ_of_eq _ _ (visits_balanced s l k);
    reached = reached;
  }

  -- and they are of the policy
  pub visits_of_policy : AreOfPolicy policy (visit_flows (states_of m) policy y)
  visits_of_policy =
      kept_flows (λ f. f.choice ≡ get_or policy f.state 0) policy y (range_with_len 0 (states_of m))
      (All-range (λ s. lt_ℚ 0ℚ (value_at y s) ≡ true → get_or policy s 0 ≡ get_or policy s 0) (states_of m) (λ s l e. refl))

-- the policy's probability is at most what they bring to the goals
pub visits_bound : (m : Mdp) (goals kept : List Bool) (policy : List ℕ) (start : ℕ) (y : List ℚ) → IsMdp m → IsPolicy m policy → start < states_of m → AreVisitsOn m kept policy start y
    → ((s : ℕ) → s < states_of m → is_marked kept s ≡ true → is_marked goals s ≡ false)
    → (n : ℕ) → hit_on m goals kept (policy_on goals kept policy) n start ≤ℚ flow_value m goals (visit_flows (states_of m) policy y) start
visits_bound m goals kept policy start y known_ choice h visits no_goal n =
    hit_on-le_flow m goals kept (visit_flows (states_of m) policy y) start policy known_ choice h no_goal (visits_each m goals kept policy start y known_ choice visits)
    (visits_of_policy m goals kept policy start y known_ choice visits) (visits_balanced m goals kept policy start y known_ choice visits) n

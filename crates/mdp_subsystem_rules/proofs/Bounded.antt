-- Where the flows of a policy are exact, what leaves a kept state being what comes in, no depth passes what they bring to the goals. The hits
-- weighed by the flows gain in one more step what comes to the goals less the hit at the start, and they never fall.
use Rattle.std.proofs.Common.{◌≡◌, ℕ, zero, suc, ◌<◌, ⊎_elim, Bool, true, false, true≢false, ◌||◌, cond, eqb, List, [], ◌∷◌, get_or, refl, sym, ◌∙◌, ap, subst, arith, pos}
use Rattle.std.proofs.lemmas.Bool.{cases_Bool}
use Rattle.std.specs.List.{All, range_with_len}
use Rattle.mdp_math.specs.{Rational.{ℚ, ◌+ℚ◌, ◌*ℚ◌, ◌≤ℚ◌}, Sum.{sum_of}}
use Rattle.mdp_math.proofs.{Ring.{◌⊕◌, ◌⊗◌, lit, ring}, Laws.{rat_ring, zero-+ℚ, zero-*ℚ}, Linear.{linear, equal, known}}
use Rattle.mdp_math.proofs.Order.{0ℚ, 1ℚ, ≤ℚ_trans, ≤ℚ_of_eq, ≤ℚ_of_lt, ≤ℚ_antisymm, mul-le-mul_left_ℚ}
use Rattle.mdp_math.proofs.Sums.{sum_of-add, sum_of-same, sum_of-same_all, sum_of-le}
use Rattle.mdp_spec.specs.{Mdp.{Entry, Mdp, states_of, row_at}, Row.{IsRow, IsMdp}, Tree.{IsPolicy, is_marked, unfolded}, Tree.Tree.{leaf}, Hit.{hit}}
use Rattle.mdp_spec.specs.Sub.{sub_of, policy_on}
use Rattle.mdp_spec.proofs.{Hits.{hit-goal, hit-end}, Above.{row_weigh, hit-nonneg}, Keeping.{unfolded_fits}}
use Rattle.mdp_spec.proofs.Subsystem.{stays, stays-kept, sub-states, stays-row, sub_is_mdp, policy_on-stays, policy_on_sub}
use Rattle.mdp_claims.specs.declared.subsystem.Flow.{Flow}
use Rattle.mdp_subsystem_rules.specs.Flow.{IsFlow, prob_to, prob_to_goals, flow_row, outflow, inflow, goal_flow, flow_value, source, goal_source}
use Rattle.mdp_subsystem_rules.specs.Policy.{AreOfPolicy, hit_on}
use Rattle.mdp_subsystem_rules.proofs.{Picks.{greatest_place, greatest_place-below}, Extremal.{hit-le_best, hit-unfolded, row_weigh-mono}, Fewer.{lost-none}}
use Rattle.mdp_subsystem_rules.proofs.{Flows.{inside_of_choice, eqb_sym, goal_part, kept_part}, Gather.{All-range, sum_of-only, gathered, gathered_parts}}

-- a policy hits no less with one more step
pub one_more_step : (m : Mdp) (goals : List Bool) (policy : List ℕ) (n s : ℕ) → IsMdp m → IsPolicy m policy → s < states_of m
    → hit m goals 1 n (unfolded m policy n s) s ≤ℚ hit m goals 1 (suc n) (unfolded m policy (suc n) s) s
one_more_step m goals policy zero s known_ choice h =
    ⊎_elim (λ g. ≤ℚ_of_eq _ _ (hit-goal m goals 1 0 leaf s (omega arith) g ∙ sym (hit-goal m goals 1 1 (unfolded m policy 1 s) s (omega arith) g)))
    (λ g. ≤ℚ_trans _ _ _ (≤ℚ_of_eq _ _ (hit-end m goals 1 leaf s (omega arith) g)) (hit-nonneg m goals 1 1 (unfolded m policy 1 s) s (omega arith)))
    (cases_Bool (is_marked goals s))
one_more_step m goals policy (suc n) s known_ choice h =
    ⊎_elim (λ g. ≤ℚ_of_eq _ _ (hit-goal m goals 1 (suc n) (unfolded m policy (suc n) s) s (omega arith) g
    ∙ sym (hit-goal m goals 1 (suc (suc n)) (unfolded m policy (suc (suc n)) s) s (omega arith) g)))
    (λ g.
    ≤ℚ_trans _ _ _ (≤ℚ_of_eq _ _ (hit-unfolded m goals policy n s known_ (choice.in_range s h) g))
    (≤ℚ_trans _ _ _
    (row_weigh-mono (states_of m) (row_at m s (get_or policy s 0)) (λ v. hit m goals 1 n (unfolded m policy n v) v) (λ v. hit m goals 1 (suc n) (unfolded m policy (suc n) v) v)
    (known_.row s (get_or policy s 0) h (choice.in_range s h)) (λ v l. one_more_step m goals policy n v known_ choice l))
    (≤ℚ_of_eq _ _ (sym (hit-unfolded m goals policy (suc n) s known_ (choice.in_range s h) g)))))
    (cases_Bool (is_marked goals s))

-- a value is its share at goals and its share at kept states
parts_are : (g k : Bool) (x : ℚ) → (g ≡ true → x ≡ 1ℚ) → (k ≡ true → g ≡ false) → (g || k ≡ false → x ≡ 0ℚ) → x ≡ cond g 1ℚ 0ℚ +ℚ cond k x 0ℚ
parts_are true true x one apart lost = absurd (true≢false (apart refl))
parts_are true false x one apart lost = one refl ∙ ring rat_ring 0 (lit (pos 1)) (lit (pos 1) ⊕ lit (pos 0)) refl
parts_are false true x one apart lost = sym (zero-+ℚ x)
parts_are false false x one apart lost = lost refl ∙ sym (zero-+ℚ 0ℚ)

kept_same : (k : Bool) (x y z : ℚ) → (k ≡ true → y ≡ z) → cond k x 0ℚ *ℚ y ≡ cond k x 0ℚ *ℚ z
kept_same true x y z claim = ap (λ (w : ℚ). x *ℚ w) (claim refl)
kept_same false x y z claim = zero-*ℚ y ∙ sym (zero-*ℚ z)

module _ (m : Mdp) (goals kept : List Bool) (flows : List Flow) (start : ℕ) (policy : List ℕ) (known_ : IsMdp m) (choice : IsPolicy m policy) (h : start < states_of m)
    (no_goal : (s : ℕ) → s < states_of m → is_marked kept s ≡ true → is_marked goals s ≡ false)
    (each : All (IsFlow m kept) flows) (along : AreOfPolicy policy flows)
    (exact : (s : ℕ) → s < states_of m → is_marked kept s ≡ true → outflow flows s ≡ source start s +ℚ inflow m flows s) where
  abbrev sub : Mdp
  sub = sub_of m goals kept

  abbrev there : List ℕ
  there = policy_on goals kept policy

  abbrev value : ℕ → ℕ → ℚ
  value n s = hit_on m goals kept (policy_on goals kept policy) n s

  abbrev kept_value : ℕ → ℕ → ℚ
  kept_value n s = cond (is_marked kept s) (value n s) 0ℚ

  abbrev weighed : ℕ → ℚ
  weighed n = sum_of (λ (x : Flow). x.amount *ℚ value n x.state) flows

  sub_known : IsMdp sub
  sub_known = sub_is_mdp m goals kept known_

  is_there : IsPolicy sub there
  is_there = policy_on_sub m goals kept policy choice

  inside_back : (s : ℕ) → s < states_of m → s < states_of sub
  inside_back s l = subst (λ (n : ℕ). s < n) (sym (sub-states m goals kept)) l

  value-lost : (n s : ℕ) → s < states_of m → stays goals kept s ≡ false → value n s ≡ 0ℚ
  value-lost n s l e =
      ≤ℚ_antisymm (value n s) 0ℚ
      (≤ℚ_trans _ _ _ (hit-le_best sub goals 1 sub_known (omega arith) n (unfolded sub there n s) s (inside_back s l) (unfolded_fits sub there n s sub_known is_there (inside_back s l)))
      (≤ℚ_of_eq _ _ (lost-none m goals kept greatest_place known_ greatest_place-below n s l e)))
      (hit-nonneg sub goals 1 n (unfolded sub there n s) s (omega arith))

  value-parts : (n s : ℕ) → s < states_of m → value n s ≡ cond (is_marked goals s) 1ℚ 0ℚ +ℚ kept_value n s
  value-parts n s l =
      parts_are (is_marked goals s) (is_marked kept s) (value n s) (λ g. hit-goal sub goals 1 n (unfolded sub there n s) s (omega arith) g) (no_goal s l) (λ e. value-lost n s l e)

  row_parts : (n : ℕ) (row : List Entry) → IsRow (states_of m) row
      → row_weigh (λ s. value n s) row ≡ prob_to_goals goals row +ℚ sum_of (λ t. kept_value n t *ℚ prob_to row t) (range_with_len 0 (states_of m))
  row_parts n row is =
      sum_of-same_all (λ (x : Entry). x.prob *ℚ value n x.target) (λ (x : Entry). cond (is_marked goals x.target) x.prob 0ℚ +ℚ kept_value n x.target *ℚ x.prob) row
      (λ k d l.
      let x : Entry = get_or row k d in
      ap (λ (w : ℚ). x.prob *ℚ w) (value-parts n x.target (is.in_range k d l))
      ∙ ring rat_ring 3 (λ p g v. p ⊗ (g ⊕ v)) (λ p g v. p ⊗ g ⊕ v ⊗ p) refl x.prob (cond (is_marked goals x.target) 1ℚ 0ℚ) (kept_value n x.target)
      ∙ ap (λ (w : ℚ). w +ℚ kept_value n x.target *ℚ x.prob) (sym (goal_part (is_marked goals x.target) x.prob)))
      ∙ sum_of-add (λ (x : Entry). cond (is_marked goals x.target) x.prob 0ℚ) (λ (x : Entry). kept_value n x.target *ℚ x.prob) row
      ∙ ap (λ (w : ℚ). prob_to_goals goals row +ℚ w) (sym (gathered (λ (x : Entry). x.target) (λ (x : Entry). x.prob) (λ t. kept_value n t) (states_of m) row is.in_range))

  step : (n : ℕ) (x : Flow) → IsFlow m kept x → x.choice ≡ get_or policy x.state 0
      → value (suc n) x.state ≡ prob_to_goals goals (flow_row m x) +ℚ sum_of (λ t. kept_value n t *ℚ prob_to (flow_row m x) t) (range_with_len 0 (states_of m))
  step n x is e =
      let l : x.state < states_of m = inside_of_choice m x.state x.choice is.choice in
      let k = stays-kept goals kept x.state is.keeps in
      hit-unfolded sub goals there n x.state sub_known (is_there.in_range x.state (inside_back x.state l)) (no_goal x.state l is.keeps)
      ∙ ap (λ (c : ℕ). row_weigh (λ s. value n s) (row_at sub x.state c)) (policy_on-stays goals kept policy x.state k ∙ sym e)
      ∙ ap (λ (row : List Entry). row_weigh (λ s. value n s) row) (stays-row m goals kept x.state x.choice l k)
      ∙ row_parts n (flow_row m x) (known_.row x.state x.choice l is.choice)

  kept_inflow : ℕ → ℚ
  kept_inflow n = sum_of (λ t. kept_value n t *ℚ inflow m flows t) (range_with_len 0 (states_of m))

  arrives : (n : ℕ) → weighed (suc n) ≡ goal_flow m goals flows +ℚ kept_inflow n
  unfolding kept_inflow
  arrives n =
      let kept_sum : Flow → ℚ = λ x. sum_of (λ t. kept_value n t *ℚ prob_to (flow_row m x) t) (range_with_len 0 (states_of m)) in
      sum_of-same_all (λ (x : Flow). x.amount *ℚ value (suc n) x.state) (λ (x : Flow). x.amount *ℚ prob_to_goals goals (flow_row m x) +ℚ x.amount *ℚ kept_sum x) flows
      (λ k d l.
      let x : Flow = get_or flows k d in
      ap (λ (w : ℚ). x.amount *ℚ w) (step n x (each k d l) (along k d l))
      ∙ ring rat_ring 3 (λ a g k. a ⊗ (g ⊕ k)) (λ a g k. a ⊗ g ⊕ a ⊗ k) refl x.amount (prob_to_goals goals (flow_row m x)) (kept_sum x))
      ∙ sum_of-add (λ (x : Flow). x.amount *ℚ prob_to_goals goals (flow_row m x)) (λ (x : Flow). x.amount *ℚ kept_sum x) flows
      ∙ ap (λ (s : ℚ). goal_flow m goals flows +ℚ s)
      (sym (gathered_parts (λ (x : Flow). x.amount) (λ (x : Flow) t. prob_to (flow_row m x) t) (λ t. kept_value n t) (range_with_len 0 (states_of m)) flows))

  leaves : (n : ℕ) → weighed n ≡ kept_value n start +ℚ kept_inflow n
  unfolding kept_inflow
  leaves n =
      sym (gathered (λ (x : Flow). x.state) (λ (x : Flow). x.amount) (λ t. kept_value n t) (states_of m) flows
      (λ k d l. let x : Flow = get_or flows k d in inside_of_choice m x.state x.choice (IsFlow.choice (each k d l)))
      ∙ sum_of-same_all (λ (x : Flow). kept_value n x.state *ℚ x.amount) (λ (x : Flow). x.amount *ℚ value n x.state) flows
      (λ k d l.
      let x : Flow = get_or flows k d in
      ap (λ (v : ℚ). v *ℚ x.amount) (kept_part (is_marked kept x.state) (value n x.state) (IsFlow.keeps (each k d l))) ∙ ring rat_ring 2 (λ v a. v ⊗ a) (λ v a. a ⊗ v) refl (value n x.state) x.amount))
      ∙ sum_of-same_all (λ t. kept_value n t *ℚ outflow flows t) (λ t. kept_value n t *ℚ source start t +ℚ kept_value n t *ℚ inflow m flows t) (range_with_len 0 (states_of m))
      (All-range (λ t. kept_value n t *ℚ outflow flows t ≡ kept_value n t *ℚ source start t +ℚ kept_value n t *ℚ inflow m flows t) (states_of m)
      (λ t l.
      kept_same (is_marked kept t) (value n t) (outflow flows t) (source start t +ℚ inflow m flows t) (exact t l)
      ∙ ring rat_ring 3 (λ k s i. k ⊗ (s ⊕ i)) (λ k s i. k ⊗ s ⊕ k ⊗ i) refl (kept_value n t) (source start t) (inflow m flows t)))
      ∙ sum_of-add (λ t. kept_value n t *ℚ source start t) (λ t. kept_value n t *ℚ inflow m flows t) (range_with_len 0 (states_of m))
      ∙ ap (λ (s : ℚ). s +ℚ sum_of (λ t. kept_value n t *ℚ inflow m flows t) (range_with_len 0 (states_of m)))
      (sum_of-same (λ t. kept_value n t *ℚ source start t) (λ t. cond (eqb start t) (kept_value n t) 0ℚ) (range_with_len 0 (states_of m))
      (λ t. ap (λ (b : Bool). kept_value n t *ℚ cond b 1ℚ 0ℚ) (eqb_sym t start) ∙ sym (goal_part (eqb start t) (kept_value n t)))
      ∙ sum_of-only (λ t. kept_value n t) start (states_of m) h)

  rises : (n : ℕ) → weighed n ≤ℚ weighed (suc n)
  rises n =
      sum_of-le (λ (x : Flow). x.amount *ℚ value n x.state) (λ (x : Flow). x.amount *ℚ value (suc n) x.state) flows
      (λ k d l.
      let x : Flow = get_or flows k d in
      mul-le-mul_left_ℚ x.amount _ _ (≤ℚ_of_lt _ _ (IsFlow.positive (each k d l)))
      (one_more_step sub goals there n x.state sub_known is_there (inside_back x.state (inside_of_choice m x.state x.choice (IsFlow.choice (each k d l))))))

  -- no depth passes what the flows bring to the goals
  pub hit_on-le_flow : (n : ℕ) → hit_on m goals kept (policy_on goals kept policy) n start ≤ℚ flow_value m goals flows start
  hit_on-le_flow n =
      linear 7 (λ v s k g i a b. v) (λ v s k g i a b. s ⊕ g)
      (λ v s k g i a b. equal (lit (pos 1)) v (s ⊕ k) ∷ equal (lit (pos 1)) b (g ⊕ i) ∷ equal (lit (pos 1)) (k ⊕ i) a ∷ known a b ∷ []) refl
      (value n start) (goal_source goals start) (kept_value n start) (goal_flow m goals flows) (kept_inflow n) (weighed n) (weighed (suc n))
      (value-parts n start h) (arrives n) (sym (leaves n)) (rises n)

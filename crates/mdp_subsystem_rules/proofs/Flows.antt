-- A flow bounds the greatest probability of its subsystem from below. With V n s the best hit of depth n, each flow (s, c) has V (n + 1) s at
-- least what V n weighs in its row. Weighed by the amounts and gathered by state this says: what comes to the goals is at most V n at the
-- start and what the weighed V gains in one more step. Over as many steps as the flows' sum times k that gain is at most 1/k a step.
use Rattle.std.proofs.Common.{◌≡◌, ℕ, suc, ◌<◌, ◌≤◌, ⊎_elim, Bool, true, false, true≢false, cond, eqb, List, [], ◌∷◌, get_or, length, refl, sym, ◌∙◌, ap, subst, arith, pos}
use Rattle.std.proofs.lemmas.Bool.{cases_lt, cases_eq, eq-eqb, ne_eqb}
use Rattle.std.specs.List.{All, range_with_len}
use Rattle.mdp_math.specs.{Rational.{ℚ, of_int, ◌+ℚ◌, ◌*ℚ◌, ◌-ℚ◌, ◌≤ℚ◌}, Sum.{sum_of}}
use Rattle.mdp_math.proofs.{Ring.{◌⊕◌, ◌⊗◌, ⊖, lit, ring}, Laws.{rat_ring, zero-+ℚ, zero-*ℚ}, Linear.{linear, equal, at_most, known}}
use Rattle.mdp_math.proofs.Order.{0ℚ, 1ℚ, ≤ℚ_trans, ≤ℚ_of_eq, ≤ℚ_of_lt, mul-le-mul_left_ℚ, mul-nonneg, le_of_mul_left_ℚ, div-of_int, ratio-nonneg}
use Rattle.mdp_math.proofs.{Whole.{of_nat-pos, of_nat-suc}, Sums.{sum_of-add, sum_of-same, sum_of-same_all, sum_of-le, sum_of-nonneg}}
use Rattle.mdp_spec.specs.{Mdp.{Entry, Choice, Mdp, states_of, choices_at}, Row.{IsRow, IsMdp}, Tree.{is_marked}, Sub.{sub_of}}
use Rattle.mdp_spec.specs.Bounds.{SubMax, SubMaxWithin, part, whole}
use Rattle.mdp_spec.proofs.{Rows.{choices_at-past, probs_nonneg}, Above.{row_weigh}, Subsystem.{stays-kept, sub-states, sub-stays, stays-row, sub_is_mdp}}
use Rattle.mdp_claims.specs.declared.subsystem.Flow.{Flow}
use Rattle.mdp_subsystem_rules.specs.Flow.{IsFlow, MeetsFlow, prob_to, prob_to_goals, flow_row, outflow, inflow, goal_flow, flow_total, source, goal_source}
use Rattle.mdp_subsystem_rules.proofs.Picks.{greatest_place, greatest_place-below, greatest_place-ge}
use Rattle.mdp_subsystem_rules.proofs.Extremal.{best, extreme-goal, extreme-nonneg, extreme-le_one, best-ge, extreme_tree, extreme_fits, hit-extreme}
use Rattle.mdp_subsystem_rules.proofs.Gather.{All-range, sum_of-only, gathered, gathered_parts, telescoped, rounded_up}

-- a state that has a choice is one
pub inside_of_choice : (m : Mdp) (s c : ℕ) → c < length (choices_at m s) → s < states_of m
inside_of_choice m s c l = ⊎_elim (λ h. h) (λ past. let e : length (choices_at m s) ≡ 0 = ap length (choices_at-past m s past) in absurd (omega (arith, e))) (cases_lt s (states_of m))

pub eqb_sym : (k n : ℕ) → eqb k n ≡ eqb n k
eqb_sym k n = ⊎_elim (λ e. eq-eqb k n e ∙ sym (eq-eqb n k (sym e))) (λ d. ne_eqb k n d ∙ sym (ne_eqb n k (λ e. d (sym e)))) (cases_eq k n)

-- ---- a state is a goal, kept, or neither

-- its share that is a goal, and its share that is kept, are at most the value
parts : (g k : Bool) (x : ℚ) → 0ℚ ≤ℚ x → (g ≡ true → x ≡ 1ℚ) → (k ≡ true → g ≡ false) → cond g 1ℚ 0ℚ +ℚ cond k x 0ℚ ≤ℚ x
parts true true x h one apart = absurd (true≢false (apart refl))
parts true false x h one apart = ≤ℚ_of_eq _ _ (ring rat_ring 0 (lit (pos 1) ⊕ lit (pos 0)) (lit (pos 1)) refl ∙ sym (one refl))
parts false true x h one apart = ≤ℚ_of_eq _ _ (zero-+ℚ x)
parts false false x h one apart = ≤ℚ_trans _ _ _ (≤ℚ_of_eq _ _ (zero-+ℚ 0ℚ)) h

pub goal_part : (g : Bool) (p : ℚ) → cond g p 0ℚ ≡ p *ℚ cond g 1ℚ 0ℚ
goal_part true p = ring rat_ring 1 (λ p. p) (λ p. p ⊗ lit (pos 1)) refl p
goal_part false p = ring rat_ring 1 (λ p. lit (pos 0)) (λ p. p ⊗ lit (pos 0)) refl p

pub kept_part : (k : Bool) (x : ℚ) → k ≡ true → cond k x 0ℚ ≡ x
kept_part k x e = ap (λ (b : Bool). cond b x 0ℚ) e

-- a claim on kept states, weighed by a kept state's value
kept_weighed : (k : Bool) (x y z : ℚ) → 0ℚ ≤ℚ x → (k ≡ true → y ≤ℚ z) → cond k x 0ℚ *ℚ y ≤ℚ cond k x 0ℚ *ℚ z
kept_weighed true x y z h claim = mul-le-mul_left_ℚ x y z h (claim refl)
kept_weighed false x y z h claim = ≤ℚ_of_eq _ _ (zero-*ℚ y ∙ sym (zero-*ℚ z))

-- ---- one step

module _ (m : Mdp) (goals kept : List Bool) (flows : List Flow) (start : ℕ) (threshold : ℚ) (known_ : IsMdp m) (h : start < states_of m) (f : MeetsFlow m goals kept flows start threshold)
    (v : ℕ → ℕ → ℚ)
    (v-nonneg : (n s : ℕ) → s < states_of m → 0ℚ ≤ℚ v n s)
    (v-le_one : (n s : ℕ) → s < states_of m → v n s ≤ℚ 1ℚ)
    (v-goal : (n s : ℕ) → is_marked goals s ≡ true → v n s ≡ 1ℚ)
    (v-step : (n : ℕ) → All (λ x. row_weigh (v n) (flow_row m x) ≤ℚ v (suc n) x.state) flows) where
  -- the share of the values at kept states
  abbrev kept_value : ℕ → ℕ → ℚ
  kept_value n s = cond (is_marked kept s) (v n s) 0ℚ

  -- the values weighed by the flows
  abbrev weighed : ℕ → ℚ
  weighed n = sum_of (λ (x : Flow). x.amount *ℚ v n x.state) flows

  value-parts : (n s : ℕ) → s < states_of m → cond (is_marked goals s) 1ℚ 0ℚ +ℚ kept_value n s ≤ℚ v n s
  value-parts n s l = parts (is_marked goals s) (is_marked kept s) (v n s) (v-nonneg n s l) (v-goal n s) (f.no_goal s l)

  -- what a row brings to goals, and to kept states times their values, is at most what the values weigh in it
  row_parts : (n : ℕ) (row : List Entry) → IsRow (states_of m) row
      → prob_to_goals goals row +ℚ sum_of (λ t. kept_value n t *ℚ prob_to row t) (range_with_len 0 (states_of m)) ≤ℚ row_weigh (v n) row
  row_parts n row is =
      subst (λ (x : ℚ). x ≤ℚ row_weigh (v n) row)
      (sum_of-add (λ (x : Entry). cond (is_marked goals x.target) x.prob 0ℚ) (λ (x : Entry). kept_value n x.target *ℚ x.prob) row
      ∙ ap (λ (x : ℚ). prob_to_goals goals row +ℚ x) (sym (gathered (λ (x : Entry). x.target) (λ (x : Entry). x.prob) (λ t. kept_value n t) (states_of m) row is.in_range)))
      (sum_of-le (λ (x : Entry). cond (is_marked goals x.target) x.prob 0ℚ +ℚ kept_value n x.target *ℚ x.prob) (λ (x : Entry). x.prob *ℚ v n x.target) row
      (λ k d l.
      let x : Entry = get_or row k d in
      linear 5 (λ q p g v w. q ⊕ v ⊗ p) (λ q p g v w. p ⊗ w) (λ q p g v w. equal (lit (pos 1)) q (p ⊗ g) ∷ at_most p (g ⊕ v) w ∷ []) refl
      (cond (is_marked goals x.target) x.prob 0ℚ) x.prob (cond (is_marked goals x.target) 1ℚ 0ℚ) (kept_value n x.target) (v n x.target)
      (goal_part (is_marked goals x.target) x.prob) (probs_nonneg (states_of m) row is k d l) (value-parts n x.target (is.in_range k d l))))

  flow_known : (x : Flow) → IsFlow m kept x → IsRow (states_of m) (flow_row m x)
  flow_known x is = known_.row x.state x.choice (inside_of_choice m x.state x.choice is.choice) is.choice

  -- what comes to the goals and to kept states, weighed, is at most the weighed values with one more step
  arrives : (n : ℕ) → goal_flow m goals flows +ℚ sum_of (λ t. kept_value n t *ℚ inflow m flows t) (range_with_len 0 (states_of m)) ≤ℚ weighed (suc n)
  arrives n =
      let kept_sum : Flow → ℚ = λ x. sum_of (λ t. kept_value n t *ℚ prob_to (flow_row m x) t) (range_with_len 0 (states_of m)) in
      subst (λ (s : ℚ). s ≤ℚ weighed (suc n))
      (sum_of-same (λ (x : Flow). x.amount *ℚ (prob_to_goals goals (flow_row m x) +ℚ kept_sum x)) (λ (x : Flow). x.amount *ℚ prob_to_goals goals (flow_row m x) +ℚ x.amount *ℚ kept_sum x) flows
      (λ x. ring rat_ring 3 (λ a g k. a ⊗ (g ⊕ k)) (λ a g k. a ⊗ g ⊕ a ⊗ k) refl x.amount (prob_to_goals goals (flow_row m x)) (kept_sum x))
      ∙ sum_of-add (λ (x : Flow). x.amount *ℚ prob_to_goals goals (flow_row m x)) (λ (x : Flow). x.amount *ℚ kept_sum x) flows
      ∙ ap (λ (s : ℚ). goal_flow m goals flows +ℚ s)
      (sym (gathered_parts (λ (x : Flow). x.amount) (λ (x : Flow) t. prob_to (flow_row m x) t) (λ t. kept_value n t) (range_with_len 0 (states_of m)) flows)))
      (sum_of-le (λ (x : Flow). x.amount *ℚ (prob_to_goals goals (flow_row m x) +ℚ kept_sum x)) (λ (x : Flow). x.amount *ℚ v (suc n) x.state) flows
      (λ k d l. let x : Flow = get_or flows k d in mul-le-mul_left_ℚ x.amount _ _ (≤ℚ_of_lt _ _ (IsFlow.positive (f.each k d l)))
      (≤ℚ_trans _ _ _ (row_parts n (flow_row m x) (flow_known x (f.each k d l))) (v-step n k d l))))

  -- what leaves the kept states, weighed, is what the start gets from outside and what comes in, at most
  leaves : (n : ℕ) → weighed n ≤ℚ kept_value n start +ℚ sum_of (λ t. kept_value n t *ℚ inflow m flows t) (range_with_len 0 (states_of m))
  leaves n =
      let out_is : sum_of (λ t. kept_value n t *ℚ outflow flows t) (range_with_len 0 (states_of m)) ≡ weighed n =
      gathered (λ (x : Flow). x.state) (λ (x : Flow). x.amount) (λ t. kept_value n t) (states_of m) flows
      (λ k d l. let x : Flow = get_or flows k d in inside_of_choice m x.state x.choice (IsFlow.choice (f.each k d l)))
      ∙ sum_of-same_all (λ (x : Flow). kept_value n x.state *ℚ x.amount) (λ (x : Flow). x.amount *ℚ v n x.state) flows
      (λ k d l.
      let x : Flow = get_or flows k d in
      ap (λ (v : ℚ). v *ℚ x.amount) (kept_part (is_marked kept x.state) (v n x.state) (IsFlow.keeps (f.each k d l))) ∙ ring rat_ring 2 (λ v a. v ⊗ a) (λ v a. a ⊗ v) refl (v n x.state) x.amount)
      in
      let source_is : sum_of (λ t. kept_value n t *ℚ source start t) (range_with_len 0 (states_of m)) ≡ kept_value n start =
      sum_of-same (λ t. kept_value n t *ℚ source start t) (λ t. cond (eqb start t) (kept_value n t) 0ℚ) (range_with_len 0 (states_of m))
      (λ t. ap (λ (b : Bool). kept_value n t *ℚ cond b 1ℚ 0ℚ) (eqb_sym t start) ∙ sym (goal_part (eqb start t) (kept_value n t)))
      ∙ sum_of-only (λ t. kept_value n t) start (states_of m) h
      in
      let in_is : sum_of (λ t. kept_value n t *ℚ (source start t +ℚ inflow m flows t)) (range_with_len 0 (states_of m))
      ≡ kept_value n start +ℚ sum_of (λ t. kept_value n t *ℚ inflow m flows t) (range_with_len 0 (states_of m)) =
      sum_of-same (λ t. kept_value n t *ℚ (source start t +ℚ inflow m flows t)) (λ t. kept_value n t *ℚ source start t +ℚ kept_value n t *ℚ inflow m flows t) (range_with_len 0 (states_of m))
      (λ t. ring rat_ring 3 (λ k s i. k ⊗ (s ⊕ i)) (λ k s i. k ⊗ s ⊕ k ⊗ i) refl (kept_value n t) (source start t) (inflow m flows t))
      ∙ sum_of-add (λ t. kept_value n t *ℚ source start t) (λ t. kept_value n t *ℚ inflow m flows t) (range_with_len 0 (states_of m))
      ∙ ap (λ (s : ℚ). s +ℚ sum_of (λ t. kept_value n t *ℚ inflow m flows t) (range_with_len 0 (states_of m))) source_is
      in
      subst (λ (s : ℚ). weighed n ≤ℚ s) in_is
      (subst (λ (s : ℚ). s ≤ℚ sum_of (λ t. kept_value n t *ℚ (source start t +ℚ inflow m flows t)) (range_with_len 0 (states_of m))) out_is
      (sum_of-le (λ t. kept_value n t *ℚ outflow flows t) (λ t. kept_value n t *ℚ (source start t +ℚ inflow m flows t)) (range_with_len 0 (states_of m))
      (All-range (λ t. kept_value n t *ℚ outflow flows t ≤ℚ kept_value n t *ℚ (source start t +ℚ inflow m flows t)) (states_of m)
      (λ t l. kept_weighed (is_marked kept t) (v n t) (outflow flows t) (source start t +ℚ inflow m flows t) (v-nonneg n t l) (f.balanced t l)))))

  -- the threshold is at most the best hit of depth n and what the weighed values gain in one more step
  one_more : (n : ℕ) → threshold ≤ℚ v n start +ℚ (weighed (suc n) -ℚ weighed n)
  one_more n =
      linear 8 (λ t g s k v a b i. t) (λ t g s k v a b i. v ⊕ (b ⊕ ⊖ a))
      (λ t g s k v a b i. known t (s ⊕ g) ∷ known (s ⊕ k) v ∷ known (g ⊕ i) b ∷ known a (k ⊕ i) ∷ []) refl
      threshold (goal_flow m goals flows) (goal_source goals start) (kept_value n start) (v n start) (weighed n)
      (weighed (suc n)) (sum_of (λ t. kept_value n t *ℚ inflow m flows t) (range_with_len 0 (states_of m)))
      f.reached (value-parts n start h) (arrives n) (leaves n)

  -- ---- many steps

  weighed-nonneg : (n : ℕ) → 0ℚ ≤ℚ weighed n
  weighed-nonneg n =
      sum_of-nonneg (λ (x : Flow). x.amount *ℚ v n x.state) flows
      (λ k d l. let x : Flow = get_or flows k d in mul-nonneg _ _ (≤ℚ_of_lt _ _ (IsFlow.positive (f.each k d l)))
      (v-nonneg n x.state (inside_of_choice m x.state x.choice (IsFlow.choice (f.each k d l)))))

  weighed-le : (n : ℕ) → weighed n ≤ℚ flow_total flows
  weighed-le n =
      sum_of-le (λ (x : Flow). x.amount *ℚ v n x.state) (λ (x : Flow). x.amount) flows
      (λ k d l.
      let x : Flow = get_or flows k d in
      linear 2 (λ a v. a ⊗ v) (λ a v. a) (λ a v. at_most a v (lit (pos 1)) ∷ []) refl x.amount (v n x.state)
      (≤ℚ_of_lt _ _ (IsFlow.positive (f.each k d l))) (v-le_one n x.state (inside_of_choice m x.state x.choice (IsFlow.choice (f.each k d l)))))

  -- the best of the first depths
  best_depth : ℕ → ℕ
  best_depth n = greatest_place (λ d. v d start) n

  total-le : (n : ℕ) → of_int (pos n) *ℚ threshold ≤ℚ of_int (pos n) *ℚ v (best_depth n) start +ℚ flow_total flows
  unfolding best_depth
  total-le n =
      linear 5 (λ a b w y z. a) (λ a b w y z. b ⊕ y) (λ a b w y z. known (a ⊕ w) (b ⊕ z) ∷ known (lit (pos 0)) w ∷ known z y ∷ []) refl
      (of_int (pos n) *ℚ threshold) (of_int (pos n) *ℚ v (best_depth n) start) (weighed 0) (flow_total flows) (weighed n)
      (telescoped (λ d. v d start) (λ d. weighed d) threshold (v (best_depth n) start) n one_more (λ d l. greatest_place-ge (λ e. v e start) n d l))
      (weighed-nonneg 0) (weighed-le n)

  -- the flows' sum is at most 1/k a step, where there are more steps than k times it
  share-le : (k n : ℕ) → 1 ≤ k → whole k *ℚ flow_total flows ≤ℚ whole n → flow_total flows ≤ℚ of_int (pos (suc n)) *ℚ part k
  share-le k n hk le =
      linear 5 (λ y q k n s. y) (λ y q k n s. s ⊗ q) (λ y q k n s. at_most q (k ⊗ y) n ∷ equal q (n ⊕ lit (pos 1)) s ∷ known (lit (pos 0)) q ∷ equal y (lit (pos 1)) (q ⊗ k) ∷ []) refl
      (flow_total flows) (part k) (whole k) (whole n) (of_int (pos (suc n))) (ratio-nonneg 1 k hk) le (sym (of_nat-suc n)) (ratio-nonneg 1 k hk) (sym (div-of_int (pos 1) k hk))

  close-le : (k n : ℕ) → 1 ≤ k → whole k *ℚ flow_total flows ≤ℚ whole n → threshold ≤ℚ v (best_depth (suc n)) start +ℚ part k
  close-le k n hk le =
      le_of_mul_left_ℚ (of_int (pos (suc n))) threshold (v (best_depth (suc n)) start +ℚ part k) (of_nat-pos (suc n) (omega arith))
      (linear 5 (λ s t v q y. s ⊗ t) (λ s t v q y. s ⊗ (v ⊕ q)) (λ s t v q y. known (s ⊗ t) (s ⊗ v ⊕ y) ∷ known y (s ⊗ q) ∷ []) refl
      (of_int (pos (suc n))) threshold (v (best_depth (suc n)) start) (part k) (flow_total flows) (total-le (suc n)) (share-le k n hk le))

  best_depth-below : (n : ℕ) → best_depth (suc n) < suc n
  unfolding best_depth
  best_depth-below n = greatest_place-below (λ d. v d start) (suc n) (omega arith)

  -- at a depth of at most k times the sum of the flows, rounded up, the value at the start is close to the threshold
  pub close_by_flow : (k : ℕ) → 1 ≤ k → (n : ℕ) × (threshold ≤ℚ v n start +ℚ part k) × ((d : ℕ) → whole k *ℚ flow_total flows ≤ℚ whole d → n ≤ d)
  close_by_flow k hk =
      let up = rounded_up (whole k *ℚ flow_total flows) in
      let l : best_depth (suc up.0) < suc up.0 = best_depth-below up.0 in
      (best_depth (suc up.0), close-le k up.0 hk up.1, λ d e. let r : up.0 ≤ d = up.2 d e in omega (arith, l, r))

-- ---- the best hit is such a value

module _ (m : Mdp) (goals kept : List Bool) (flows : List Flow) (start : ℕ) (threshold : ℚ) (known_ : IsMdp m) (h : start < states_of m) (f : MeetsFlow m goals kept flows start threshold) where
  abbrev sub : Mdp
  sub = sub_of m goals kept

  sub_known : IsMdp sub
  sub_known = sub_is_mdp m goals kept known_

  inside_back : (s : ℕ) → s < states_of m → s < states_of sub
  inside_back s l = subst (λ (n : ℕ). s < n) (sym (sub-states m goals kept)) l

  -- a flow's choice offers its row on the subsystem too
  flow_step : (n : ℕ) (x : Flow) → IsFlow m kept x → row_weigh (λ s. best sub goals n s) (flow_row m x) ≤ℚ best sub goals (suc n) x.state
  flow_step n x is =
      let l : x.state < states_of m = inside_of_choice m x.state x.choice is.choice in
      let k = stays-kept goals kept x.state is.keeps in
      subst (λ (row : List Entry). row_weigh (λ s. best sub goals n s) row ≤ℚ best sub goals (suc n) x.state) (stays-row m goals kept x.state x.choice l k)
      (best-ge sub goals sub_known n x.state x.choice (f.no_goal x.state l is.keeps) (subst (λ (cs : List Choice). x.choice < length cs) (sym (sub-stays m goals kept x.state l k)) is.choice))

  -- some tree of a depth of at most k times the sum of the flows, rounded up, comes close to the threshold
  pub sub_max_within_of_flow : SubMaxWithin m goals kept start threshold (flow_total flows)
  sub_max_within_of_flow = record {
    starts = h;
    close = λ k hk.
        let c = close_by_flow m goals kept flows start threshold known_ h f (λ n s. best sub goals n s)
        (λ n s l. extreme-nonneg sub goals greatest_place sub_known greatest_place-below n s (inside_back s l))
        (λ n s l. extreme-le_one sub goals greatest_place sub_known greatest_place-below n s (inside_back s l))
        (λ n s g. extreme-goal sub goals greatest_place n s g)
        (λ n. λ i d l. flow_step n (get_or flows i d) (f.each i d l)) k hk
        in (
          c.0,
          1,
          extreme_tree sub goals greatest_place sub_known greatest_place-below c.0 start,
          record { mixes = omega arith; fits = extreme_fits sub goals greatest_place sub_known greatest_place-below c.0 start (inside_back start h) },
          subst (λ (x : ℚ). threshold ≤ℚ x +ℚ part k) (sym (hit-extreme sub goals greatest_place sub_known greatest_place-below c.0 start (inside_back start h))) c.1,
          c.2,
        );
  }

  -- and so some trees do
  pub sub_max_of_flow : SubMax m goals kept start threshold
  sub_max_of_flow = record { starts = h; close = λ k hk. let c = SubMaxWithin.close sub_max_within_of_flow k hk in (c.0, c.1, c.2, c.3, c.4) }

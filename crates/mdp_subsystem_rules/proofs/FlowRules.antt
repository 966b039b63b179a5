-- A flow certificate is answered yes exactly where the rules hold in exact numbers and no written term is past width; and then its subsystem reaches
-- the threshold.
use Rattle.std.proofs.Common.{◌≡◌, ℕ, ◌<◌, Bool, true, false, not, cond, List, [], ◌∷◌, ◌++◌, map, length}
use Rattle.std.proofs.Common.{get_or, set, replicate, Option, Some, None, refl, sym, ap, subst, ◌∙◌, ⊎_elim, pos, true≢false}
use Rattle.std.proofs.lemmas.List.{length-set, length-replicate, get_or-replicate, get_or-set_same, get_or-set_other}
use Rattle.std.proofs.{lemmas.List.Elements.{All-from_recursion, recursion_from_All}, lemmas.Bool.{cases_eq, eq-eqb, ne_eqb, lt-ltb, ltb-true}}
use Rattle.std.specs.{Prelude.{◌↔◌, unwrap_or}, List.{AllByRecursion}, Option.{IsSome, option_map}}
use Rattle.mdp_math.specs.{Rational.{ℚ, of_int, lt_ℚ, ◌+ℚ◌, ◌≤ℚ◌}, Result.{◌>>=◌}}
use Rattle.mdp_math.proofs.{Booleans.{and-parts, and-both}, Laws.{zero-+ℚ}, Options.{Some_same}, Extremes.{lt_of_test, test_of_lt}, Order.{0ℚ}}
use Rattle.mdp_spec.specs.{Bounds.{SubMax, SubMaxWithin}, Mdp.{Mdp, states_of, choices_at, value_at}, Row.{IsMdp}, Tree.{is_marked}}
use Rattle.mdp_farkas.specs.Verdict.{Check, InWidth, IsYes, IfYes, objection, objection_to, verdict, verdict_of}
use Rattle.mdp_claims.specs.{declared.verdict.Fault.{Fault}, declared.verdict.Verdict.{Verdict}, declared.verdict.Verdict.TheVariants.{No}}
use Rattle.mdp_claims.specs.declared.subsystem.Flow.{Flow}
use Rattle.mdp_farkas.proofs.Comparing.{le_of_at_least, at_least_of_le, le_of_at_most, at_most_of_le}
use Rattle.mdp_farkas.proofs.Holds.{Each, Holds, Sound, each_of_yes, yes_of_each, told_of_each, if_yes, holds_of_sound, never_no, each_append, each_left, each_right}
use Rattle.mdp_subsystem_rules.specs.Flow.{IsFlow, MeetsFlow, outflow, inflow, flow_total, flow_value, source}
use Rattle.mdp_subsystem_rules.specs.FlowChecks.{kept_check, each_flow, balance_check, arrival_check, sum_checks, checks_from, flow_checks, HoldsFlow}
use Rattle.mdp_subsystem_rules.specs.{Kept.{kept_marks}, Shape.{IsFlowShape}, Sums.{FlowSums, AreSums, first_sums, with_flow, after_flow, after_flows}}
use Rattle.mdp_subsystem_rules.proofs.{Added.{AddsFlows, no_flow_adds, flow_adds}, Flows.{sub_max_of_flow, sub_max_within_of_flow}}
use Rattle.mdp_subsystem_rules.proofs.{Kept.{each_kept, each_place}, Parts.{unmarked, each_at, each_of}, Sizes.{sized_flow}}

-- ---- single checks

to_unmarked : (b : Bool) → b ≡ false → not b ≡ true
to_unmarked b e = ap not e

-- a step that is in width gives the sums after it
after_is : (o : Option FlowSums) (sums : FlowSums) → IsSome (option_map (λ after. true) o) → Some (unwrap_or o sums) ≡ o
after_is None sums w = absurd (true≢false (sym w))
after_is (Some t) sums w = refl

never_false : (o : Option FlowSums) → IsSome (option_map (λ after. true) o) → option_map (λ after. true) o ≡ Some true
never_false None w = absurd (true≢false (sym w))
never_false (Some t) w = refl

-- ---- checks of which those at the end are looked at only where no term of those before is past width

no_then : (c : Check) (h : Option Bool) (cs ds : List Check) → (IsSome h → h ≡ Some true) → (IsSome h → (g : Fault) → verdict_of (cs ++ ds) ≡ No g → ⊥) → (f : Fault)
    → verdict (objection c h >>= (λ ok. objection_to (cs ++ ds))) ≡ No f → ⊥
no_then c None cs ds s rest f e = cc
no_then c (Some false) cs ds s rest f e = let k = s refl in cc
no_then c (Some true) cs ds s rest f e = rest refl f e

never_no_then : (cs ds : List Check) → Each Sound cs → (Each InWidth cs → (f : Fault) → verdict_of ds ≡ No f → ⊥) → (f : Fault) → verdict_of (cs ++ ds) ≡ No f → ⊥
never_no_then [] ds s rest f e = rest tt f e
never_no_then (c ∷ cs) ds s rest f e = no_then c c.holds cs ds s.0 (λ told. never_no_then cs ds s.1 (λ w. rest (told, w))) f e

-- ---- the first sums

first_inflow : (n start v : ℕ) → start < n → v < n → value_at (set (replicate n 0ℚ) start (of_int (pos 1))) v ≡ source start v
first_inflow n start v h l =
    ⊎_elim
    (λ same. ap (λ (k : ℕ). value_at (set (replicate n 0ℚ) start (of_int (pos 1))) k) same
    ∙ get_or-set_same (replicate n 0ℚ) start (of_int (pos 1)) 0ℚ (subst (λ (k : ℕ). start < k) (sym (length-replicate n 0ℚ)) h)
    ∙ ap (λ (b : Bool). cond b (of_int (pos 1)) 0ℚ) (sym (eq-eqb v start same)))
    (λ other. get_or-set_other (replicate n 0ℚ) start v (of_int (pos 1)) 0ℚ other ∙ get_or-replicate n v 0ℚ 0ℚ l
    ∙ ap (λ (b : Bool). cond b (of_int (pos 1)) 0ℚ) (sym (ne_eqb v start other)))
    (cases_eq v start)

pub sized_first : (n : ℕ) (goals : List Bool) (start : ℕ) → AreSums n (first_sums n goals start)
sized_first n goals start = record {
  outflows = length-replicate n 0ℚ;
  inflows = length-set (replicate n 0ℚ) start (of_int (pos 1)) ∙ length-replicate n 0ℚ;
}

-- ---- the sums of all flows, where no term is past width

adds_all : (n : ℕ) (m : Mdp) (goals kept : List Bool) (sums : FlowSums) (flows : List Flow) → AreSums n sums → Each InWidth (each_flow m goals kept sums flows)
    → AddsFlows n goals m sums (after_flows m goals sums flows) flows
adds_all n m goals kept sums [] are w = no_flow_adds n goals m sums
adds_all n m goals kept sums (f ∷ flows) are w =
    let told = after_is (with_flow m goals sums f) sums w.1.1.0 in
    flow_adds n goals m sums (after_flow m goals sums f) (after_flows m goals (after_flow m goals sums f) flows) f flows are told
    (adds_all n m goals kept (after_flow m goals sums f) flows (sized_flow n m goals sums (after_flow m goals sums f) f are told) w.1.1.1)

module _ (m : Mdp) (goals : List Bool) (start : ℕ) (threshold : ℚ) (kept : List ℕ) (wide : List Bool) (flows : List Flow) (h : start < states_of m) (shape : IsFlowShape m kept wide flows) where
  abbrev n : ℕ
  n = states_of m

  abbrev marks : List Bool
  marks = kept_marks (states_of m) kept

  abbrev first : FlowSums
  first = first_sums (states_of m) goals start

  abbrev end : FlowSums
  end = after_flows m goals (first_sums (states_of m) goals start) flows

  -- ---- the parts of the checks

  at_flows : (P : Check → Type 0) → Each P (flow_checks m goals start threshold kept flows) → Each P (each_flow m goals marks first flows)
  at_flows P a = each_left P (each_flow m goals marks first flows) (sum_checks kept threshold end) (each_right P (map (kept_check goals) kept) (checks_from m goals threshold kept flows first) a)

  at_sums : (P : Check → Type 0) → Each P (flow_checks m goals start threshold kept flows) → Each P (sum_checks kept threshold end)
  at_sums P a = each_right P (each_flow m goals marks first flows) (sum_checks kept threshold end) (each_right P (map (kept_check goals) kept) (checks_from m goals threshold kept flows first) a)

  at_balance : (P : Check → Type 0) (i : ℕ) → Each P (flow_checks m goals start threshold kept flows) → i < length kept → P (balance_check end (get_or kept i 0))
  at_balance P i a l = each_at P (balance_check end) kept i (each_left P (map (balance_check end) kept) (arrival_check end threshold ∷ []) (at_sums P a)) l

  at_arrival : (P : Check → Type 0) → Each P (flow_checks m goals start threshold kept flows) → P (arrival_check end threshold)
  at_arrival P a = (each_right P (map (balance_check end) kept) (arrival_check end threshold ∷ []) (at_sums P a)).0

  inside : (i : ℕ) → i < length kept → get_or kept i 0 < states_of m
  inside i l = shape.kept_in_range i 0 l

  -- ---- the sums in exact numbers

  module _ (w : Each InWidth (each_flow m goals marks first flows)) where
    adds : AddsFlows n goals m first end flows
    adds = adds_all n m goals marks first flows (sized_first n goals start) w

    pub outflow_is : (s : ℕ) → s < states_of m → value_at end.outflows s ≡ outflow flows s
    outflow_is s l = AddsFlows.leaves adds s l ∙ ap (λ (x : ℚ). x +ℚ outflow flows s) (get_or-replicate n s 0ℚ 0ℚ l) ∙ zero-+ℚ (outflow flows s)

    pub inflow_is : (s : ℕ) → s < states_of m → is_marked goals s ≡ false → value_at end.inflows s ≡ source start s +ℚ inflow m flows s
    inflow_is s l free = AddsFlows.comes adds s l free ∙ ap (λ (x : ℚ). x +ℚ inflow m flows s) (first_inflow n start s h l)

    pub goal_is : end.goal ≡ flow_value m goals flows start
    goal_is = AddsFlows.arrives adds

  -- ---- what holds, in exact numbers

  each_is : (sums : FlowSums) (fs : List Flow) → Each Holds (each_flow m goals marks sums fs) → AllByRecursion (IsFlow m marks) fs
  each_is sums [] a = tt
  each_is sums (f ∷ fs) a =
      let takes = and-parts (is_marked marks f.state) (lt_ℚ 0ℚ f.amount) (Some_same _ _ a.1.0) in (
        record { keeps = takes.0; choice = ltb-true f.choice (length (choices_at m f.state)) (Some_same _ _ a.0); positive = lt_of_test 0ℚ f.amount takes.1 },
        each_is (after_flow m goals sums f) fs a.1.1.1,
      )

  module _ (a : Each Holds (flow_checks m goals start threshold kept flows)) where
    in_width : Each InWidth (each_flow m goals marks first flows)
    in_width = at_flows InWidth (told_of_each (flow_checks m goals start threshold kept flows) a)

    free_at : (i : ℕ) → i < length kept → is_marked goals (get_or kept i 0) ≡ false
    free_at i l =
        unmarked (is_marked goals (get_or kept i 0))
        (Some_same _ _ (each_at Holds (kept_check goals) kept i (each_left Holds (map (kept_check goals) kept) (checks_from m goals threshold kept flows first) a) l))

    balanced_at : (i : ℕ) → i < length kept → outflow flows (get_or kept i 0) ≤ℚ source start (get_or kept i 0) +ℚ inflow m flows (get_or kept i 0)
    balanced_at i l =
        let s = get_or kept i 0 in
        subst (λ (x : ℚ). x ≤ℚ source start s +ℚ inflow m flows s) (outflow_is in_width s (inside i l))
        (subst (λ (x : ℚ). value_at end.outflows s ≤ℚ x) (inflow_is in_width s (inside i l) (free_at i l)) (le_of_at_most (value_at end.outflows s) (value_at end.inflows s) (at_balance Holds i a l)))

    meets : MeetsFlow m goals marks flows start threshold
    meets = record {
      no_goal = each_kept (λ s. is_marked goals s ≡ false) (states_of m) kept free_at;
      each = All-from_recursion (IsFlow m marks) flows (each_is first flows (at_flows Holds a));
      balanced = each_kept (λ s. outflow flows s ≤ℚ source start s +ℚ inflow m flows s) (states_of m) kept balanced_at;
      reached = subst (λ (x : ℚ). threshold ≤ℚ x) (goal_is in_width) (le_of_at_least end.goal threshold (at_arrival Holds a));
    }

  -- ---- and the other way round

  flows_sound : (sums : FlowSums) (fs : List Flow) → AllByRecursion (IsFlow m marks) fs → Each Sound (each_flow m goals marks sums fs)
  flows_sound sums [] each = tt
  flows_sound sums (f ∷ fs) each = (
    λ w. ap Some (lt-ltb f.choice (length (choices_at m f.state)) (IsFlow.choice each.0)),
    (
      λ w. ap Some (and-both (is_marked marks f.state) (lt_ℚ 0ℚ f.amount) (IsFlow.keeps each.0) (test_of_lt 0ℚ f.amount (IsFlow.positive each.0))),
      (λ w. never_false (with_flow m goals sums f) w, flows_sound (after_flow m goals sums f) fs each.1),
    ),
  )

  module _ (r : MeetsFlow m goals marks flows start threshold) where
    is_free : (i : ℕ) → i < length kept → is_marked goals (get_or kept i 0) ≡ false
    is_free i l = each_place (λ s. is_marked goals s ≡ false) (states_of m) kept r.no_goal i l (inside i l)

    kept_sound : Each Sound (map (kept_check goals) kept)
    kept_sound = each_of Sound (kept_check goals) kept (λ i l told. ap Some (to_unmarked (is_marked goals (get_or kept i 0)) (is_free i l)))

    each_sound : Each Sound (each_flow m goals marks first flows)
    each_sound = flows_sound first flows (recursion_from_All (IsFlow m marks) flows r.each)

    -- where no term of the flows is past width
    module _ (w : Each InWidth (each_flow m goals marks first flows)) where
      is_balanced : (i : ℕ) → i < length kept → value_at end.outflows (get_or kept i 0) ≤ℚ value_at end.inflows (get_or kept i 0)
      is_balanced i l =
          let s = get_or kept i 0 in
          subst (λ (x : ℚ). x ≤ℚ value_at end.inflows s) (sym (outflow_is w s (inside i l)))
          (subst (λ (x : ℚ). outflow flows s ≤ℚ x) (sym (inflow_is w s (inside i l) (is_free i l)))
          (each_place (λ s. outflow flows s ≤ℚ source start s +ℚ inflow m flows s) (states_of m) kept r.balanced i l (inside i l)))

      sums_sound : Each Sound (sum_checks kept threshold end)
      sums_sound =
          each_append Sound (map (balance_check end) kept) (arrival_check end threshold ∷ [])
          (each_of Sound (balance_check end) kept (λ i l told. at_most_of_le (value_at end.outflows (get_or kept i 0)) (value_at end.inflows (get_or kept i 0)) (is_balanced i l) told))
          (λ told. at_least_of_le end.goal threshold (subst (λ (x : ℚ). threshold ≤ℚ x) (sym (goal_is w)) r.reached) told, tt)

    sound : Each InWidth (each_flow m goals marks first flows) → Each Sound (flow_checks m goals start threshold kept flows)
    sound w =
        each_append Sound (map (kept_check goals) kept) (checks_from m goals threshold kept flows first) kept_sound
        (each_append Sound (each_flow m goals marks first flows) (sum_checks kept threshold end) each_sound (sums_sound w))

    -- what meets the rules is never answered no
    pub flow_never_no : (fault : Fault) → verdict_of (flow_checks m goals start threshold kept flows) ≡ No fault → ⊥
    flow_never_no =
        never_no_then (map (kept_check goals) kept) (checks_from m goals threshold kept flows first) kept_sound
        (λ told. never_no_then (each_flow m goals marks first flows) (sum_checks kept threshold end) each_sound (λ w. never_no (sum_checks kept threshold end) (sums_sound w)))

  -- ---- the verdict

  pub flow_rules : (v : Verdict) → v ≡ verdict_of (flow_checks m goals start threshold kept flows) → IsYes v ↔ HoldsFlow m goals start threshold kept flows
  flow_rules v e = (
    (λ yes_.
        let a = each_of_yes (flow_checks m goals start threshold kept flows) (sym e ∙ yes_) in
        record { rules = meets a; in_width = All-from_recursion InWidth (flow_checks m goals start threshold kept flows) (told_of_each (flow_checks m goals start threshold kept flows) a) }),
    (λ is.
        let w = recursion_from_All InWidth (flow_checks m goals start threshold kept flows) is.in_width in
        e ∙ yes_of_each (flow_checks m goals start threshold kept flows) (holds_of_sound (flow_checks m goals start threshold kept flows) (sound is.rules (at_flows InWidth w)) w)),
  )

  pub flow_sub_max : (v : Verdict) → IsMdp m → v ≡ verdict_of (flow_checks m goals start threshold kept flows) → IfYes v (SubMax m goals marks start threshold)
  flow_sub_max v known e = if_yes v (SubMax m goals marks start threshold) (λ yes_. sub_max_of_flow m goals marks flows start threshold known h (HoldsFlow.rules ((flow_rules v e).0 yes_)))

  pub flow_within : (v : Verdict) → IsMdp m → v ≡ verdict_of (flow_checks m goals start threshold kept flows) → IfYes v (SubMaxWithin m goals marks start threshold (flow_total flows))
  flow_within v known e =
      if_yes v (SubMaxWithin m goals marks start threshold (flow_total flows))
      (λ yes_. sub_max_within_of_flow m goals marks flows start threshold known h (HoldsFlow.rules ((flow_rules v e).0 yes_)))

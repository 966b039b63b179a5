-- A no to a flow: the named state is one of the model, and what the named rule says of the named place is false.
use Rattle.std.proofs.Common.{◌≡◌, ℕ, ◌<◌, Bool, true, false, true≢false, not, lt-ltb, List, [], ◌∷◌, ◌&&◌, map, length, get_or, Option, Some, None, refl, sym, ap, subst, ◌∙◌}
use Rattle.std.proofs.lemmas.List.Elements.{recursion_from_All}
use Rattle.std.specs.{List.{AllByRecursion}, Option.{option_map}}
use Rattle.mdp_math.specs.Rational.{ℚ, lt_ℚ, ◌+ℚ◌, ◌≤ℚ◌, ◌<ℚ◌}
use Rattle.mdp_math.proofs.{Booleans.{and-both}, Options.{Some_same}, Extremes.{test_of_lt}, Order.{0ℚ}}
use Rattle.mdp_spec.specs.{Mdp.{Mdp, states_of, choices_at, value_at}, Tree.{is_marked}}
use Rattle.mdp_farkas.specs.{Verdict.{Check, InWidth}, Reach.{choice_exists}, Says.{IsChoice}, Laws.{IsInModel}}
use Rattle.mdp_claims.specs.{declared.verdict.Fault.{Fault}, declared.subsystem.Flow.{Flow}}
use Rattle.mdp_claims.specs.declared.rule.Rule.TheVariants.{ChoiceExists, StateIsKept}
use Rattle.mdp_farkas.proofs.{Comparing.{at_least_of_le, at_most_of_le}, Holds.{Each, Holds, told_of_each}}
use Rattle.mdp_farkas.proofs.Telling.{refuted, Tells, tells_first, tells_none, tells_one, tells_append}
use Rattle.mdp_subsystem_rules.specs.Flow.{outflow, inflow, source}
use Rattle.mdp_subsystem_rules.specs.FlowChecks.{kept_check, flow_check, sums_check, each_flow, balance_check, arrival_check, sum_checks, checks_from, flow_checks}
use Rattle.mdp_subsystem_rules.specs.{Kept.{kept_marks}, Shape.{IsFlowShape}, Sums.{FlowSums, first_sums, with_flow, after_flow, after_flows}}
use Rattle.mdp_subsystem_rules.specs.{Says.{FlowSays}, Laws.{FlowNoRefutes}}
use Rattle.mdp_subsystem_rules.proofs.{FlowRules.{outflow_is, inflow_is, goal_is}, Kept.{kept_marks-at, listed-at}, Parts.{unmarked, each_at, tells_each}}

-- a check of the sums alone is never false
not_false : (o : Option FlowSums) → option_map (λ after. true) o ≡ Some false → ⊥
not_false None e = cc
not_false (Some sums) e = true≢false (Some_same true false e)

module _ (m : Mdp) (goals : List Bool) (start : ℕ) (threshold : ℚ) (kept : List ℕ) (wide : List Bool) (flows : List Flow) (h : start < states_of m) (shape : IsFlowShape m kept wide flows) where
  abbrev marks : List Bool
  marks = kept_marks (states_of m) kept

  abbrev first : FlowSums
  first = first_sums (states_of m) goals start

  abbrev end : FlowSums
  end = after_flows m goals (first_sums (states_of m) goals start) flows

  abbrev Refutes : Fault → Type 0
  Refutes f = IsInModel m f × (FlowSays m goals marks flows start threshold f.rule f.state f.choice → ⊥)

  located : (s : ℕ) → s < states_of m → (t : ℕ) → Some s ≡ Some t → t < states_of m
  located s l t e = subst (λ (t : ℕ). t < states_of m) (Some_same s t e) l

  inside : (i : ℕ) → i < length kept → get_or kept i 0 < states_of m
  inside i l = shape.kept_in_range i 0 l

  is_kept : (i : ℕ) → i < length kept → (get_or kept i 0 < states_of m) × (is_marked marks (get_or kept i 0) ≡ true)
  is_kept i l = (inside i l, kept_marks-at (states_of m) kept (get_or kept i 0) (inside i l) ∙ listed-at kept i l)

  -- ---- the kept states

  kept_tell : Tells Refutes (map (kept_check goals) kept)
  kept_tell =
      tells_each Refutes (kept_check goals) kept
      (λ i l wrong. (
        located (get_or kept i 0) (inside i l),
        λ says. refuted (is_marked goals (get_or kept i 0) ≡ false) _ (λ e w. ap (λ (b : Bool). Some (not b)) e) wrong (says (is_kept i l)),
      ))

  -- ---- the flows

  abbrev IsPushed : Flow → Type 0
  IsPushed f = (is_marked marks f.state ≡ true) × (0ℚ <ℚ f.amount)

  -- what the rules say of a flow's place they say of the flow
  abbrev Told : Flow → Type 0
  Told f =
      (f.state < states_of m)
      × (FlowSays m goals marks flows start threshold ChoiceExists (Some f.state) (Some f.choice) → IsChoice m f.state f.choice)
      × (FlowSays m goals marks flows start threshold StateIsKept (Some f.state) (Some f.choice) → IsPushed f)

  each_told : AllByRecursion Told flows
  each_told = recursion_from_All Told flows (λ k d l. (shape.flows_in_range k d l, λ says. says k d l refl refl, λ says. says k d l refl refl))

  pushed : (f : Flow) → IsPushed f → Some (is_marked marks f.state && lt_ℚ 0ℚ f.amount) ≡ Some true
  pushed f is = ap Some (and-both (is_marked marks f.state) (lt_ℚ 0ℚ f.amount) is.0 (test_of_lt 0ℚ f.amount is.1))

  flows_tell : (sums : FlowSums) (fs : List Flow) → AllByRecursion Told fs → Tells Refutes (each_flow m goals marks sums fs)
  flows_tell sums [] told = tells_none Refutes
  flows_tell sums (f ∷ fs) told =
      let rest : List Check = each_flow m goals marks (after_flow m goals sums f) fs in
      tells_first Refutes (choice_exists m f.state f.choice) (flow_check marks f ∷ sums_check m goals sums f ∷ rest)
      (λ wrong. (
        located f.state told.0.0,
        λ says. refuted (IsChoice m f.state f.choice) _ (λ i w. ap Some (lt-ltb f.choice (length (choices_at m f.state)) i)) wrong (told.0.1 says),
      ))
      (λ takes.
      tells_first Refutes (flow_check marks f) (sums_check m goals sums f ∷ rest)
      (λ wrong. (located f.state told.0.0, λ says. refuted (IsPushed f) _ (λ is w. pushed f is) wrong (told.0.2 says)))
      (λ keeps. tells_first Refutes (sums_check m goals sums f) rest (λ wrong. absurd (not_false (with_flow m goals sums f) wrong)) (λ added. flows_tell (after_flow m goals sums f) fs told.1)))

  -- ---- the sums

  module _ (free : (i : ℕ) → i < length kept → is_marked goals (get_or kept i 0) ≡ false) (w : Each InWidth (each_flow m goals marks first flows)) where
    is_balanced : (i : ℕ) → i < length kept → outflow flows (get_or kept i 0) ≤ℚ source start (get_or kept i 0) +ℚ inflow m flows (get_or kept i 0)
        → value_at end.outflows (get_or kept i 0) ≤ℚ value_at end.inflows (get_or kept i 0)
    is_balanced i l says =
        let s = get_or kept i 0 in
        subst (λ (x : ℚ). x ≤ℚ value_at end.inflows s) (sym (outflow_is m goals start threshold kept wide flows h shape w s (inside i l)))
        (subst (λ (x : ℚ). outflow flows s ≤ℚ x) (sym (inflow_is m goals start threshold kept wide flows h shape w s (inside i l) (free i l))) says)

    balances_tell : Tells Refutes (map (balance_check end) kept)
    balances_tell =
        tells_each Refutes (balance_check end) kept
        (λ i l wrong. (
          located (get_or kept i 0) (inside i l),
          λ says.
              refuted (value_at end.outflows (get_or kept i 0) ≤ℚ value_at end.inflows (get_or kept i 0)) _
              (λ le told. at_most_of_le (value_at end.outflows (get_or kept i 0)) (value_at end.inflows (get_or kept i 0)) le told) wrong (is_balanced i l (says (is_kept i l))),
        ))

    arrival_tells : Tells Refutes (arrival_check end threshold ∷ [])
    arrival_tells =
        tells_one Refutes (arrival_check end threshold)
        (λ wrong. (
          λ t e. cc,
          λ says.
              refuted (threshold ≤ℚ end.goal) _ (λ le told. at_least_of_le end.goal threshold le told) wrong
              (subst (λ (x : ℚ). threshold ≤ℚ x) (sym (goal_is m goals start threshold kept wide flows h shape w)) says),
        ))

    sums_tell : Tells Refutes (sum_checks kept threshold end)
    sums_tell = tells_append Refutes (map (balance_check end) kept) (arrival_check end threshold ∷ []) balances_tell (λ held. arrival_tells)

  all_tell : Tells Refutes (flow_checks m goals start threshold kept flows)
  all_tell =
      tells_append Refutes (map (kept_check goals) kept) (checks_from m goals threshold kept flows first) kept_tell
      (λ held.
      tells_append Refutes (each_flow m goals marks first flows) (sum_checks kept threshold end) (flows_tell first flows each_told)
      (λ ran.
      sums_tell (λ i l. unmarked (is_marked goals (get_or kept i 0)) (Some_same _ _ (each_at Holds (kept_check goals) kept i held l))) (told_of_each (each_flow m goals marks first flows) ran)))

pub flow_refuted : FlowNoRefutes
flow_refuted m goals start threshold kept wide flows fault h shape = all_tell m goals start threshold kept wide flows h shape fault

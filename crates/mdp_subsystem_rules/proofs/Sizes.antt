-- The sums keep their lengths, whatever is added.
use Rattle.std.proofs.Common.{◌≡◌, ℕ, Bool, true, false, cond, List, [], ◌∷◌, set, Option, Some, None, pos, refl, sym, ◌∙◌, subst}
use Rattle.std.proofs.lemmas.List.{length-replicate, length-set}
use Rattle.std.specs.Prelude.{replicate, unwrap_or}
use Rattle.mdp_math.specs.{Rational.{ℚ, of_int}, Written.{written_add, written_mul}}
use Rattle.mdp_math.proofs.Options.{Some_same, step_told}
use Rattle.mdp_spec.specs.{Mdp.{Entry, Mdp, value_at}, Tree.{is_marked}}
use Rattle.mdp_claims.specs.declared.subsystem.Flow.{Flow}
use Rattle.mdp_subsystem_rules.specs.Flow.{flow_row}
use Rattle.mdp_subsystem_rules.specs.Sums.{FlowSums, AreSums, first_sums, with_outflow, with_goal, with_inflow, with_entry, with_row, with_flow, after_flow, after_flows}

module _ (n : ℕ) where
  pub sized_first : (goals : List Bool) (start : ℕ) → AreSums n (first_sums n goals start)
  sized_first goals start = record {
    outflows = length-replicate n (of_int (pos 0));
    inflows = length-set (replicate n (of_int (pos 0))) start (of_int (pos 1)) ∙ length-replicate n (of_int (pos 0));
  }

  pub sized_outflow : (sums t : FlowSums) (s : ℕ) (amount : ℚ) → AreSums n sums → Some t ≡ with_outflow sums s amount → AreSums n t
  sized_outflow sums t s amount are e =
      let p = step_told (written_add (value_at sums.outflows s) amount) (λ sum. Some (record sums { outflows = set sums.outflows s sum })) t e in
      subst (λ (o : FlowSums). AreSums n o) (sym (Some_same _ _ p.2)) (record { outflows = length-set sums.outflows s p.0 ∙ are.outflows; inflows = are.inflows })

  sized_goal : (sums t : FlowSums) (term : ℚ) → AreSums n sums → Some t ≡ with_goal sums term → AreSums n t
  sized_goal sums t term are e =
      let p = step_told (written_add sums.goal term) (λ sum. Some (record sums { goal = sum })) t e in
      subst (λ (o : FlowSums). AreSums n o) (sym (Some_same _ _ p.2)) (record { outflows = are.outflows; inflows = are.inflows })

  sized_inflow : (sums t : FlowSums) (v : ℕ) (term : ℚ) → AreSums n sums → Some t ≡ with_inflow sums v term → AreSums n t
  sized_inflow sums t v term are e =
      let p = step_told (written_add (value_at sums.inflows v) term) (λ sum. Some (record sums { inflows = set sums.inflows v sum })) t e in
      subst (λ (o : FlowSums). AreSums n o) (sym (Some_same _ _ p.2)) (record { outflows = are.outflows; inflows = length-set sums.inflows v p.0 ∙ are.inflows })

  by_target : (b : Bool) (sums t : FlowSums) (v : ℕ) (term : ℚ) → AreSums n sums → Some t ≡ cond b (with_goal sums term) (with_inflow sums v term) → AreSums n t
  by_target true sums t v term are e = sized_goal sums t term are e
  by_target false sums t v term are e = sized_inflow sums t v term are e

  pub sized_entry : (goals : List Bool) (amount : ℚ) (sums t : FlowSums) (x : Entry) → AreSums n sums → Some t ≡ with_entry goals amount sums x → AreSums n t
  sized_entry goals amount sums t x are e =
      let p = step_told (written_mul amount x.prob) (λ term. cond (is_marked goals x.target) (with_goal sums term) (with_inflow sums x.target term)) t e in
      by_target (is_marked goals x.target) sums t x.target p.0 are p.2

  pub sized_row : (goals : List Bool) (amount : ℚ) (sums t : FlowSums) (row : List Entry) → AreSums n sums → Some t ≡ with_row goals amount sums row → AreSums n t
  sized_row goals amount sums t [] are e = subst (λ (o : FlowSums). AreSums n o) (sym (Some_same _ _ e)) are
  sized_row goals amount sums t (x ∷ row) are e =
      let p = step_told (with_entry goals amount sums x) (λ sums. with_row goals amount sums row) t e in
      sized_row goals amount p.0 t row (sized_entry goals amount sums p.0 x are p.1) p.2

  pub sized_flow : (m : Mdp) (goals : List Bool) (sums t : FlowSums) (f : Flow) → AreSums n sums → Some t ≡ with_flow m goals sums f → AreSums n t
  sized_flow m goals sums t f are e =
      let p = step_told (with_outflow sums f.state f.amount) (λ sums. with_row goals f.amount sums (flow_row m f)) t e in
      sized_row goals f.amount p.0 t (flow_row m f) (sized_outflow sums p.0 f.state f.amount are p.1) p.2

  or_before : (sums : FlowSums) (o : Option FlowSums) → AreSums n sums → ((t : FlowSums) → Some t ≡ o → AreSums n t) → AreSums n (unwrap_or o sums)
  or_before sums None are each = are
  or_before sums (Some t) are each = each t refl

  pub sized_after : (m : Mdp) (goals : List Bool) (sums : FlowSums) (f : Flow) → AreSums n sums → AreSums n (after_flow m goals sums f)
  sized_after m goals sums f are = or_before sums (with_flow m goals sums f) are (λ t e. sized_flow m goals sums t f are e)

  pub sized_all : (m : Mdp) (goals : List Bool) (sums : FlowSums) (flows : List Flow) → AreSums n sums → AreSums n (after_flows m goals sums flows)
  sized_all m goals sums [] are = are
  sized_all m goals sums (f ∷ flows) are = sized_all m goals (after_flow m goals sums f) flows (sized_after m goals sums f are)

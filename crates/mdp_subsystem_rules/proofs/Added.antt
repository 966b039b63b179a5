-- What written sums are in exact numbers, once a flow is added to them: its amount leaves its state, and comes to the targets of its row with their
-- probabilities.
use Rattle.std.proofs.Common.{◌≡◌, ℕ, ◌<◌, ⊎_elim, Bool, true, false, true≢false, cond, eqb, List, [], ◌∷◌, length, get_or, set, Some, refl, sym, ap, ◌∙◌, subst, pos}
use Rattle.std.proofs.{lemmas.List.{get_or-set_same, get_or-set_other}, lemmas.Bool.{cases_eq, eq-eqb, ne_eqb}}
use Rattle.mdp_math.specs.{Rational.{ℚ, ◌+ℚ◌, ◌*ℚ◌}, Written.{written_add, written_mul}}
use Rattle.mdp_math.proofs.{Options.{Some_same, step_told}, Order.{0ℚ}, Ring.{◌⊕◌, ◌⊗◌, lit, ring}, Laws.{rat_ring, +ℚ_assoc}}
use Rattle.mdp_math.proofs.Written.{written_mul-some, written_add-some}
use Rattle.mdp_spec.specs.{Mdp.{Entry, Mdp, value_at}, Tree.{is_marked}}
use Rattle.mdp_claims.specs.declared.subsystem.Flow.{Flow}
use Rattle.mdp_subsystem_rules.specs.Flow.{flow_row, prob_to, prob_to_goals, outflow, inflow, goal_flow}
use Rattle.mdp_subsystem_rules.specs.Sums.{FlowSums, AreSums, with_outflow, with_goal, with_inflow, with_entry, with_row, with_flow}
use Rattle.mdp_subsystem_rules.proofs.Sizes.{sized_outflow, sized_entry}

add-none : (a w : ℚ) → a ≡ a +ℚ w *ℚ 0ℚ
add-none a w = ring rat_ring 2 (λ a w. a) (λ a w. a ⊕ w ⊗ lit (pos 0)) refl a w

add-zero_ℚ : (a : ℚ) → a ≡ a +ℚ 0ℚ
add-zero_ℚ a = ring rat_ring 1 (λ a. a) (λ a. a ⊕ lit (pos 0)) refl a

scaled : (b : Bool) (a p : ℚ) → cond b (a *ℚ p) 0ℚ ≡ a *ℚ cond b p 0ℚ
scaled true a p = refl
scaled false a p = ring rat_ring 1 (λ a. lit (pos 0)) (λ a. a ⊗ lit (pos 0)) refl a

-- a sum that is written at one place
set_adds : (xs : List ℚ) (t v : ℕ) (sum term : ℚ) → v < length xs → sum ≡ value_at xs t +ℚ term → value_at (set xs t sum) v ≡ value_at xs v +ℚ cond (eqb t v) term 0ℚ
set_adds xs t v sum term l e =
    ⊎_elim
    (λ same. ap (λ (k : ℕ). get_or (set xs k sum) v 0ℚ) same ∙ get_or-set_same xs v sum 0ℚ l ∙ e ∙ ap (λ (k : ℕ). value_at xs k +ℚ term) same
    ∙ ap (λ (b : Bool). value_at xs v +ℚ cond b term 0ℚ) (sym (eq-eqb t v same)))
    (λ other. get_or-set_other xs t v sum 0ℚ (λ q. other (sym q)) ∙ add-zero_ℚ (value_at xs v) ∙ ap (λ (b : Bool). value_at xs v +ℚ cond b term 0ℚ) (sym (ne_eqb t v other)))
    (cases_eq t v)

module _ (n : ℕ) (goals : List Bool) where
  -- from sums to sums: p v comes to each state v that is no goal, and g to the goals
  pub record Adds (sums t : FlowSums) (p : ℕ → ℚ) (g : ℚ) : Type 0 where
    pub same : t.outflows ≡ sums.outflows
    pub comes : (v : ℕ) → v < n → is_marked goals v ≡ false → value_at t.inflows v ≡ value_at sums.inflows v +ℚ p v
    pub arrives : t.goal ≡ sums.goal +ℚ g

  module _ (amount : ℚ) (sums t : FlowSums) (x : Entry) (are : AreSums n sums) (term : ℚ) (is : term ≡ amount *ℚ x.prob) where
    by_target : (b : Bool) → is_marked goals x.target ≡ b → Some t ≡ cond b (with_goal sums term) (with_inflow sums x.target term)
        → Adds sums t (λ v. amount *ℚ cond (eqb x.target v) x.prob 0ℚ) (amount *ℚ cond (is_marked goals x.target) x.prob 0ℚ)
    by_target true g e =
        let p = step_told (written_add sums.goal term) (λ sum. Some (record sums { goal = sum })) t e in
        let same = Some_same _ _ p.2 in
        record {
          same = ap (λ (u : FlowSums). u.outflows) same;
          comes = λ v l free.
              ap (λ (u : FlowSums). value_at u.inflows v) same
              ∙ add-none (value_at sums.inflows v) amount
              ∙ ap (λ (b : Bool). value_at sums.inflows v +ℚ amount *ℚ cond b x.prob 0ℚ)
              (sym (ne_eqb x.target v (λ q. true≢false (sym g ∙ ap (is_marked goals) q ∙ free))));
          arrives =
              ap (λ (u : FlowSums). u.goal) same
              ∙ written_add-some sums.goal term p.0 p.1
              ∙ ap (λ (w : ℚ). sums.goal +ℚ w) (is ∙ ap (λ (b : Bool). amount *ℚ cond b x.prob 0ℚ) (sym g));
        }
    by_target false g e =
        let p = step_told (written_add (value_at sums.inflows x.target) term) (λ sum. Some (record sums { inflows = set sums.inflows x.target sum })) t e in
        let same = Some_same _ _ p.2 in
        record {
          same = ap (λ (u : FlowSums). u.outflows) same;
          comes = λ v l free.
              ap (λ (u : FlowSums). value_at u.inflows v) same
              ∙ set_adds sums.inflows x.target v p.0 term (subst (λ (k : ℕ). v < k) (sym are.inflows) l) (written_add-some (value_at sums.inflows x.target) term p.0 p.1)
              ∙ ap (λ (w : ℚ). value_at sums.inflows v +ℚ cond (eqb x.target v) w 0ℚ) is
              ∙ ap (λ (w : ℚ). value_at sums.inflows v +ℚ w) (scaled (eqb x.target v) amount x.prob);
          arrives = ap (λ (u : FlowSums). u.goal) same ∙ add-none sums.goal amount ∙ ap (λ (b : Bool). sums.goal +ℚ amount *ℚ cond b x.prob 0ℚ) (sym g);
        }

  entry_adds : (amount : ℚ) (sums t : FlowSums) (x : Entry) → AreSums n sums → Some t ≡ with_entry goals amount sums x
      → Adds sums t (λ v. amount *ℚ cond (eqb x.target v) x.prob 0ℚ) (amount *ℚ cond (is_marked goals x.target) x.prob 0ℚ)
  entry_adds amount sums t x are e =
      let p = step_told (written_mul amount x.prob) (λ term. cond (is_marked goals x.target) (with_goal sums term) (with_inflow sums x.target term)) t e in
      by_target amount sums t x are p.0 (written_mul-some amount x.prob p.0 p.1) (is_marked goals x.target) refl p.2

  row_adds : (amount : ℚ) (sums t : FlowSums) (row : List Entry) → AreSums n sums → Some t ≡ with_row goals amount sums row
      → Adds sums t (λ v. amount *ℚ prob_to row v) (amount *ℚ prob_to_goals goals row)
  row_adds amount sums t [] are e =
      let same = Some_same _ _ e in
      record {
        same = ap (λ (u : FlowSums). u.outflows) same;
        comes = λ v l free. ap (λ (u : FlowSums). value_at u.inflows v) same ∙ add-none (value_at sums.inflows v) amount;
        arrives = ap (λ (u : FlowSums). u.goal) same ∙ add-none sums.goal amount;
      }
  row_adds amount sums t (x ∷ row) are e =
      let p = step_told (with_entry goals amount sums x) (λ sums. with_row goals amount sums row) t e in
      let one = entry_adds amount sums p.0 x are p.1 in
      let rest = row_adds amount p.0 t row (sized_entry n goals amount sums p.0 x are p.1) p.2 in
      record {
        same = rest.same ∙ one.same;
        comes = λ v l free.
            rest.comes v l free
            ∙ ap (λ (w : ℚ). w +ℚ amount *ℚ prob_to row v) (one.comes v l free)
            ∙ joined (value_at sums.inflows v) amount (cond (eqb x.target v) x.prob 0ℚ) (prob_to row v);
        arrives =
            rest.arrives
            ∙ ap (λ (w : ℚ). w +ℚ amount *ℚ prob_to_goals goals row) one.arrives
            ∙ joined sums.goal amount (cond (is_marked goals x.target) x.prob 0ℚ) (prob_to_goals goals row);
      }
    where
      joined : (a w p q : ℚ) → (a +ℚ w *ℚ p) +ℚ w *ℚ q ≡ a +ℚ w *ℚ (p +ℚ q)
      joined a w p q = ring rat_ring 4 (λ a w p q. (a ⊕ w ⊗ p) ⊕ w ⊗ q) (λ a w p q. a ⊕ w ⊗ (p ⊕ q)) refl a w p q

  -- from sums to sums, by a list of flows
  pub record AddsFlows (m : Mdp) (sums t : FlowSums) (flows : List Flow) : Type 0 where
    pub leaves : (s : ℕ) → s < n → value_at t.outflows s ≡ value_at sums.outflows s +ℚ outflow flows s
    pub comes : (v : ℕ) → v < n → is_marked goals v ≡ false → value_at t.inflows v ≡ value_at sums.inflows v +ℚ inflow m flows v
    pub arrives : t.goal ≡ sums.goal +ℚ goal_flow m goals flows

  pub no_flow_adds : (m : Mdp) (sums : FlowSums) → AddsFlows m sums sums []
  no_flow_adds m sums = record {
    leaves = λ s l. add-zero_ℚ (value_at sums.outflows s);
    comes = λ v l free. add-zero_ℚ (value_at sums.inflows v);
    arrives = add-zero_ℚ sums.goal;
  }

  -- one flow before others
  pub flow_adds : (m : Mdp) (sums mid t : FlowSums) (f : Flow) (flows : List Flow) → AreSums n sums → Some mid ≡ with_flow m goals sums f → AddsFlows m mid t flows → AddsFlows m sums t (f ∷ flows)
  flow_adds m sums mid t f flows are e rest =
      let p = step_told (with_outflow sums f.state f.amount) (λ sums. with_row goals f.amount sums (flow_row m f)) mid e in
      let q = step_told (written_add (value_at sums.outflows f.state) f.amount) (λ sum. Some (record sums { outflows = set sums.outflows f.state sum })) p.0 p.1 in
      let out = Some_same _ _ q.2 in
      let row = row_adds f.amount p.0 mid (flow_row m f) (sized_outflow n sums p.0 f.state f.amount are p.1) p.2 in
      record {
        leaves = λ s l.
            rest.leaves s l
            ∙ ap (λ (w : ℚ). w +ℚ outflow flows s)
            (ap (λ (xs : List ℚ). value_at xs s) (row.same ∙ ap (λ (u : FlowSums). u.outflows) out)
            ∙ set_adds sums.outflows f.state s q.0 f.amount (subst (λ (k : ℕ). s < k) (sym are.outflows) l) (written_add-some (value_at sums.outflows f.state) f.amount q.0 q.1))
            ∙ +ℚ_assoc (value_at sums.outflows s) (cond (eqb f.state s) f.amount 0ℚ) (outflow flows s);
        comes = λ v l free.
            rest.comes v l free
            ∙ ap (λ (w : ℚ). w +ℚ inflow m flows v)
            (row.comes v l free ∙ ap (λ (u : FlowSums). value_at u.inflows v +ℚ f.amount *ℚ prob_to (flow_row m f) v) out)
            ∙ +ℚ_assoc (value_at sums.inflows v) (f.amount *ℚ prob_to (flow_row m f) v) (inflow m flows v);
        arrives =
            rest.arrives
            ∙ ap (λ (w : ℚ). w +ℚ goal_flow m goals flows) (row.arrives ∙ ap (λ (u : FlowSums). u.goal +ℚ f.amount *ℚ prob_to_goals goals (flow_row m f)) out)
            ∙ +ℚ_assoc sums.goal (f.amount *ℚ prob_to_goals goals (flow_row m f)) (goal_flow m goals flows);
      }

-- The certificate of what the trials for the greatest probability leave.
use Rattle.std.proofs.Common.{◌≡◌, ℕ, ◌<◌, Bool, List, Result, Ok, Err, sym, subst}
use Rattle.mdp_math.specs.Rational.{ℚ, ◌≤ℚ◌}
use Rattle.mdp_spec.specs.{Mdp.{Mdp, states_of, value_at}, Row.{IsMdp}, Rules.{MeetsReachMax}}
use Rattle.mdp_rows.specs.declared.dir.Dir.TheVariants.{Max}
use Rattle.mdp_subsystem_rules.specs.{Flow.{MeetsFlow}, Kept.{kept_marks}, Laws.{ListedAreMarks, ListedFlowShape}, Shape.{IsFlowShape}, Visits.{visit_flows}}
use Rattle.mdp_claims.specs.declared.subsystem.Flow.{Flow}
use Rattle.mdp_reach.specs.{Laws.{AnswersMeetRules}, Query.{Answer, EndsSo}}
use Rattle.mdp_witness.specs.{First.{IsFirst}, Evaluation.{Visited, visited, Visits, visited_value}, TrialLaws.{MaxKeptIsFlow}, Trial.{AreLeft}}
use Rattle.mdp_witness.specs.Query.{PlainSubsystem, flow, floor, Refusal, too_wide, visiting, flow_of, verdict_on, FlowHeld, AfterVisits, FromFirst}
use Rattle.mdp_witness.proofs.Passing.{same_answer}

-- flows and kept states that meet the rules
abbrev pub Meets : Mdp → List Bool → ℕ → ℚ → PlainSubsystem → Type 0
Meets m goals start threshold (flow kept wide flows) = MeetsFlow m goals (kept_marks (states_of m) kept) flows start threshold
Meets m goals start threshold (floor kept wide values ranks) = ⊥

abbrev Shaped : Mdp → PlainSubsystem → Type 0
Shaped m (flow kept wide flows) = IsFlowShape m kept wide flows
Shaped m (floor kept wide values ranks) = ⊥

pub shaped : (m : Mdp) (policy : List ℕ) (kept wide : List Bool) (last : Visited) (states : List ℕ) (marks : List Bool) (flows : List Flow)
    → flow states marks flows ≡ flow_of m policy kept wide last → ListedFlowShape
    → IsFlowShape m states marks flows
shaped m policy kept wide last states marks flows e shape = subst (Shaped m) (sym e) (shape m kept wide policy last.visits)

-- the answer to the query of the model, as three lists
module _ (m : Mdp) (goals : List Bool) (a : Answer) (z : List ℚ) (policy ranks : List ℕ) (ez : z ≡ a.values) (ep : policy ≡ a.choices) (er : ranks ≡ a.ranks) (known_ : IsMdp m)
    (solved : EndsSo Max m goals (Ok a)) (answers : AnswersMeetRules) where
  pub meets-max : MeetsReachMax m goals z policy ranks
  meets-max = subst (λ (a : Answer). MeetsReachMax m goals a.values a.choices a.ranks) (sym (same_answer a z policy ranks ez ep er)) (answers Max m goals a known_ solved).rules

  module _ (start : ℕ) (threshold : ℚ) (first : List Bool) (is : IsFirst Max m goals z policy start first) where
    -- a term past width in the evaluation of the first set
    pub first-wide : (s : ℕ) (r : Result PlainSubsystem Refusal) → visited m goals policy start first ≡ Err s → r ≡ Err (too_wide (visiting policy s)) → FromFirst m goals start threshold Max a r
    first-wide s r e h = subst (λ (a : Answer). FromFirst m goals start threshold Max a r) (same_answer a z policy ranks ez ep er)
        (first, is, subst (λ (x : Result Visited ℕ). AfterVisits m goals start threshold policy first x r) (sym e) h)

    module _ (kept wide : List Bool) (last : Visited) (left : AreLeft (Visits m goals policy start) visited_value threshold first kept wide last)
        (states : List ℕ) (marks : List Bool) (flows : List Flow) (cert : flow states marks flows ≡ flow_of m policy kept wide last) where
      pub left-meets : start < states_of m → threshold ≤ℚ value_at z start → MaxKeptIsFlow → ListedAreMarks → MeetsFlow m goals (kept_marks (states_of m) states) flows start threshold
      left-meets inside reaches law marked =
          let is_flow = law m goals z policy ranks start threshold first kept wide last known_ meets-max is inside reaches left in
          subst (Meets m goals start threshold) (sym cert)
          (subst (λ (marks : List Bool). MeetsFlow m goals marks (visit_flows (states_of m) policy last.visits) start threshold) (sym (marked (states_of m) kept is_flow.one_each)) is_flow.flow)

      -- the certificate, held against the rules
      pub left-held : (v : Visited) → visited m goals policy start first ≡ Ok v → (r : Result PlainSubsystem Refusal)
          → FlowHeld a.choices (flow states marks flows) (verdict_on m goals start threshold (flow states marks flows)) r → FromFirst m goals start threshold Max a r
      left-held v e r h = subst (λ (a : Answer). FromFirst m goals start threshold Max a r) (same_answer a z policy ranks ez ep er) (
        first,
        is,
        subst (λ (x : Result Visited ℕ). AfterVisits m goals start threshold policy first x r) (sym e) (record {
          kept = kept;
          wide = wide;
          last = last;
          left = left;
          held =
              subst (λ (x : PlainSubsystem). FlowHeld policy x (verdict_on m goals start threshold x) r) cert
              (subst (λ (p : List ℕ). FlowHeld p (flow states marks flows) (verdict_on m goals start threshold (flow states marks flows)) r) (sym ep) h);
        }),
      )

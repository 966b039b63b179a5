use Rattle.std.proofs.Common.{◌≡◌, ℕ, Bool, List, ◌++◌, length, map, sym, ap, ◌∙◌, subst}
use Rattle.mdp_spec.specs.Mdp.{states_of}
use Rattle.mdp_farkas.specs.Verdict.{verdict_of, objection_to, verdict}
use Rattle.mdp_subsystem_rules.specs.{FlowChecks.{kept_check, checks_from, flow_checks}, Kept.{kept_marks}, Sums.{FlowSums, AreSums, first_sums}}
use Rattle.mdp_subsystem_rules.proofs.{Kept.{length-kept_marks}, Sizes.{sized_first}, FlowRules.{flow_rules, flow_sub_max, flow_within}}
use Rattle.mdp_subsystem_rules.proofs.flow.holds_flow.Goals as goal

pub invariant_of-claim-clause-marks : goal.invariant_of-claim-clause-marks
invariant_of-claim-clause-marks c =
    c.in_ok-kept.ensures {u = tt}
    ∙ ap (λ (n : ℕ). kept_marks n c.as_slice.result.now) c.states.ensures
    ∙ ap (λ (kept : List ℕ). kept_marks (states_of c.args.model.now) kept) c.as_slice.ensures.value

pub invariant_of-claim-clause-marks_each : goal.invariant_of-claim-clause-marks_each
invariant_of-claim-clause-marks_each c =
    ap (λ (marks : List Bool). length marks) (c.in_ok-kept.ensures {u = tt}) ∙ length-kept_marks c.states.result c.as_slice.result.now ∙ c.states.ensures

pub walk-walk-requires : goal.walk-walk-requires
walk-walk-requires c =
    let m = c.args.model.now in
    let begun = c.in_ok-sums.ensures {u = tt} ∙ ap (λ (n : ℕ). first_sums n c.args.goals.now c.args.start) c.states-2.ensures in
    record { sums = subst (λ (sums : FlowSums). AreSums (states_of m) sums) (sym begun) (sized_first (states_of m) c.args.goals.now c.args.start) }

pub returns : goal.returns
returns c =
    let m = c.args.model.now in
    let goals = c.args.goals.now in
    let start = c.args.start in
    let threshold = c.args.threshold in
    let kept = c.args.cert.now.kept.items in
    let wide = c.args.cert.now.wide.items in
    let flows = c.args.cert.now.flows.items in
    let v = c.verdict_after.result in
    let e : c.verdict_after.result
    ≡ verdict_of (flow_checks c.args.model.now c.args.goals.now c.args.start c.args.threshold c.args.cert.now.kept.items c.args.cert.now.flows.items) =
    c.verdict_after.ensures
    ∙ ap verdict c.walk-walk.ensures
    ∙ ap (λ (sums : FlowSums). verdict (objection_to (map (kept_check goals) kept ++ checks_from m goals threshold kept flows sums)))
    (c.in_ok-sums.ensures {u = tt} ∙ ap (λ (n : ℕ). first_sums n goals start) c.states-2.ensures)
    in
    record {
      verdict = e;
      rules = flow_rules m goals start threshold kept wide flows c.requires.start c.requires.shape v e;
      sub_max = flow_sub_max m goals start threshold kept wide flows c.requires.start c.requires.shape v c.known.ensures.mdp e;
      within = flow_within m goals start threshold kept wide flows c.requires.start c.requires.shape v c.known.ensures.mdp e;
    }

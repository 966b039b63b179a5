use Rattle.std.proofs.{Common.{List, ◌∷◌, drop, ◌+◌, refl, sym, ap, ◌∙◌, subst}, lemmas.Result.{err_from_is_err_and}, lemmas.List.{drop_more}}
use Rattle.mdp_spec.specs.Mdp.{states_of}
use Rattle.mdp_claims.specs.declared.subsystem.Flow.{Flow}
use Rattle.mdp_subsystem_rules.specs.{FlowClaim.{flow_at, flows_at, sums_after, sums_after_all}, Sums.{FlowSums, AreSums}}
use Rattle.mdp_farkas.specs.Verdict.{objection_to}
use Rattle.mdp_farkas.proofs.Objections.{halts, goes_on}
use Rattle.mdp_subsystem_rules.proofs.Sizes.{sized_after}
use Rattle.mdp_subsystem_rules.proofs.flow.FlowClaim.each_flow_at.Goals as goal

pub returns-in_err-flow_at-clause-verdict : goal.returns-in_err-flow_at-clause-verdict
returns-in_err-flow_at-clause-verdict c =
    let x = c.args.self in
    let rest = drop (c.loop-flow.flow-index + 1) c.args.flows.now in
    let f = c.flow-item.result in
    let next = drop_more c.args.flows.now c.loop-flow.flow-index f c.loop-flow-test.true ∙ ap (λ (f : Flow). f ∷ rest) (sym c.flow-item.is) in
    let p = err_from_is_err_and c.from_residual.result c.from_residual.ensures.1 in
    rw (p.1, p.2)
    (halts (flow_at x c.loop-flow.sums f) (flows_at x (sums_after x c.loop-flow.sums f) rest) c.in_err-flow_at.field-0.0 (c.in_err-flow_at.ensures {u = tt}).verdict
    ∙ sym (ap (λ (flows : List Flow). objection_to (flows_at x c.loop-flow.sums flows)) next)
    ∙ sym c.loop-flow.invariant.0)

pub loop-flow-preserved : goal.loop-flow-preserved
loop-flow-preserved c =
    let x = c.args.self in
    let rest = drop (c.loop-flow.flow-index + 1) c.args.flows.now in
    let f = c.flow-item.result in
    let next = drop_more c.args.flows.now c.loop-flow.flow-index f c.loop-flow-test.true ∙ ap (λ (f : Flow). f ∷ rest) (sym c.flow-item.is) in
    let done = c.in_ok-flow_at.ensures {u = tt} in (
      c.loop-flow.invariant.0
          ∙ ap (λ (flows : List Flow). objection_to (flows_at x c.loop-flow.sums flows)) next
          ∙ sym (goes_on (flow_at x c.loop-flow.sums f) (flows_at x (sums_after x c.loop-flow.sums f) rest) tt _ done.verdict refl)
          ∙ ap (λ (sums : FlowSums). objection_to (flows_at x sums rest)) (sym done.sums),
      c.loop-flow.invariant.1
          ∙ ap (λ (flows : List Flow). sums_after_all x c.loop-flow.sums flows) next
          ∙ ap (λ (sums : FlowSums). sums_after_all x sums rest) (sym done.sums),
      subst (λ (sums : FlowSums). AreSums (states_of x.model.now) sums) (sym done.sums) (sized_after (states_of x.model.now) x.model.now x.goals.now c.loop-flow.sums f c.loop-flow.invariant.2),
    )

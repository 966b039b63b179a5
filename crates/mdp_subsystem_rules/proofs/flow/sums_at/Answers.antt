use Rattle.std.proofs.{Common.{Bool, Option, None, List, [], ◌∷◌, map, ap, ◌∙◌}, lemmas.Result.{err_from_is_err_and}}
use Rattle.mdp_farkas.specs.{Compare.{is_at_least}, Verdict.{Check, objection_to}}
use Rattle.mdp_claims.specs.declared.rule.Rule.TheVariants.{FlowsReachGoals}
use Rattle.mdp_subsystem_rules.specs.{FlowChecks.{balance_check, arrival_check}, Sums.{FlowSums}}
use Rattle.mdp_farkas.proofs.Objections.{halts, goes_on}
use Rattle.mdp_subsystem_rules.proofs.flow.sums_at.Goals as goal

pub returns-in_err-each_kept : goal.returns-in_err-each_kept
returns-in_err-each_kept c =
    let balances = map (balance_check c.args.sums.now) c.args.kept.now in
    let arrival : List Check = arrival_check c.args.sums.now c.args.threshold.now ∷ [] in
    let p = err_from_is_err_and c.from_residual.result c.from_residual.ensures.1 in
    rw (p.1, p.2) (halts balances arrival c.in_err-each_kept.field-0.0 (c.in_err-each_kept.ensures {u = tt}))

pub returns : goal.returns
returns c =
    let balances = map (balance_check c.args.sums.now) c.args.kept.now in
    let arrival : List Check = arrival_check c.args.sums.now c.args.threshold.now ∷ [] in
    goes_on balances arrival tt c.judged_at.result (c.in_ok-each_kept.ensures {u = tt})
    (c.judged_at.ensures
    ∙ ap (λ (holds : Option Bool). objection_to (record { rule = FlowsReachGoals; state = None; choice = None; holds = holds } ∷ []))
    (c.at_least.ensures ∙ ap (λ (sums : FlowSums). is_at_least sums.goal c.args.threshold.now) c.sums.view_is))

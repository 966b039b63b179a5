use Rattle.std.proofs.{Common.{Bool, Option, None, List, [], ◌∷◌, ap, ◌∙◌}, lemmas.Result.{err_from_is_err_and}}
use Rattle.mdp_math.specs.Rational.{ℚ}
use Rattle.mdp_farkas.specs.{Compare.{is_at_least}, Verdict.{Check, objection_to}}
use Rattle.mdp_farkas.proofs.Objections.{halts, goes_on}
use Rattle.mdp_claims.specs.declared.rule.Rule.TheVariants.{StartReachesThreshold}
use Rattle.mdp_subsystem_rules.specs.{FloorChecks.{start_check}, FloorClaim.{each_state}}
use Rattle.mdp_subsystem_rules.proofs.Counted.{line_values-at}
use Rattle.mdp_subsystem_rules.proofs.floor.FloorClaim.walk.Goals as goal

pub returns-in_err-each_line_at : goal.returns-in_err-each_line_at
returns-in_err-each_line_at c =
    let x = c.args.self in
    let cert = x.cert.now in
    let starts : List Check = start_check x.model.now x.goals.now c.args.start c.args.threshold.now cert.kept.items cert.values.items ∷ [] in
    let p = err_from_is_err_and c.from_residual.result c.from_residual.ensures.1 in
    rw (p.1, p.2) (halts (each_state x) starts c.in_err-each_line_at.field-0.0 (c.in_err-each_line_at.ensures {u = tt}))

pub returns : goal.returns
returns c =
    let x = c.args.self in
    let cert = x.cert.now in
    let starts : List Check = start_check x.model.now x.goals.now c.args.start c.args.threshold.now cert.kept.items cert.values.items ∷ [] in
    goes_on (each_state x) starts tt c.judged_at.result (c.in_ok-each_line_at.ensures {u = tt})
    (c.judged_at.ensures
    ∙ ap (λ (holds : Option Bool). objection_to (record { rule = StartReachesThreshold; state = None; choice = None; holds = holds } ∷ []))
    (c.at_least-reaches.ensures
    ∙ ap (λ (value : ℚ). is_at_least value c.args.threshold.now)
    (c.counted.ensures ∙ line_values-at x.model.now x.goals.now cert.kept.items cert.values.items c.args.start c.requires)))

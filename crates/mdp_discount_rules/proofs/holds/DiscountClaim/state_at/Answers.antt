use Rattle.std.proofs.{Common.{Bool, Option, [], ◌∷◌, ◌++◌, List, ap, ◌∙◌}, lemmas.Result.{err_from_is_err_and}}
use Rattle.mdp_farkas.specs.{Reach.{choice_exists}, Verdict.{Check, at_choice, at_choices, objection_to}}
use Rattle.mdp_claims.specs.declared.rule.Rule.TheVariants.{DiscountedOnPolicy}
use Rattle.mdp_farkas.proofs.Objections.{halts, goes_on}
use Rattle.mdp_discount_rules.specs.Checks.{covers_check, reached_check}
use Rattle.mdp_discount_rules.proofs.holds.DiscountClaim.state_at.Goals as goal

pub returns-in_err-choice_at : goal.returns-in_err-choice_at
returns-in_err-choice_at c =
    let x = c.args.self in
    let m = x.model.now in
    let exists : List Check = choice_exists m c.args.s c.args.choice ∷ [] in
    let covers = at_choices m c.args.s (covers_check x.dir m x.name x.factor.now x.values.now c.args.s) in
    let policy : List Check = reached_check m x.name x.factor.now x.values.now c.args.s c.args.choice ∷ [] in
    let p = err_from_is_err_and c.from_residual.result c.from_residual.ensures.1 in
    rw (p.1, p.2)
    (halts exists (covers ++ policy) c.in_err-choice_at.field-0.0 (c.in_err-choice_at.ensures {u = tt}))

pub returns-in_err-each_choice : goal.returns-in_err-each_choice
returns-in_err-each_choice c =
    let x = c.args.self in
    let m = x.model.now in
    let exists : List Check = choice_exists m c.args.s c.args.choice ∷ [] in
    let covers = at_choices m c.args.s (covers_check x.dir m x.name x.factor.now x.values.now c.args.s) in
    let policy : List Check = reached_check m x.name x.factor.now x.values.now c.args.s c.args.choice ∷ [] in
    let p = err_from_is_err_and c.from_residual-in_err-each_choice.result c.from_residual-in_err-each_choice.ensures.1 in
    rw (p.1, p.2)
    (goes_on exists (covers ++ policy) tt _ (c.in_ok-choice_at.ensures {u = tt})
    (halts covers policy c.in_err-each_choice.field-0.0 (c.in_err-each_choice.ensures {u = tt})))

pub returns : goal.returns
returns c =
    let x = c.args.self in
    let m = x.model.now in
    let exists : List Check = choice_exists m c.args.s c.args.choice ∷ [] in
    let covers = at_choices m c.args.s (covers_check x.dir m x.name x.factor.now x.values.now c.args.s) in
    let policy : List Check = reached_check m x.name x.factor.now x.values.now c.args.s c.args.choice ∷ [] in
    goes_on exists (covers ++ policy) tt c.judged.result (c.in_ok-choice_at.ensures {u = tt})
    (goes_on covers policy tt c.judged.result (c.in_ok-each_choice.ensures {u = tt})
    (c.judged.ensures ∙ ap (λ (h : Option Bool). objection_to (at_choice DiscountedOnPolicy c.args.s c.args.choice h ∷ [])) c.is_reached.ensures))

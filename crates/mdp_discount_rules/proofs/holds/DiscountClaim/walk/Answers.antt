use Rattle.std.proofs.{Common.{ℕ, Bool, Option, [], ◌∷◌, List, None, ap, ◌∙◌}, lemmas.Result.{err_from_is_err_and}}
use Rattle.std.specs.List.{slice_index, flat_map, range_with_len}
use Rattle.mdp_farkas.specs.Verdict.{Check, objection_to}
use Rattle.mdp_claims.specs.declared.rule.Rule.TheVariants.{RemainderIsGreatest}
use Rattle.mdp_farkas.proofs.Objections.{halts, goes_on}
use Rattle.mdp_discount_rules.specs.Checks.{checks_at, state_checks, remainder_check}
use Rattle.mdp_discount_rules.proofs.holds.DiscountClaim.walk.Goals as goal

pub returns-in_err-each_below : goal.returns-in_err-each_below
returns-in_err-each_below c =
    let x = c.args.self in
    let checks = λ (s : ℕ). checks_at x.dir x.model.now x.name x.factor.now x.values.now s (slice_index x.choices.now s) in
    let states : List Check = state_checks x.dir x.model.now x.name x.factor.now x.values.now x.choices.now in
    let last : List Check = remainder_check x.values.now c.args.remainder.now ∷ [] in
    let p = err_from_is_err_and c.from_residual.result c.from_residual.ensures.1 in
    rw (p.1, p.2) (halts states last c.in_err-each_below.field-0.0 (c.in_err-each_below.ensures {u = tt} ∙ ap (λ (n : ℕ). objection_to (flat_map checks (range_with_len 0 n))) c.states.ensures))

pub returns : goal.returns
returns c =
    let x = c.args.self in
    let checks = λ (s : ℕ). checks_at x.dir x.model.now x.name x.factor.now x.values.now s (slice_index x.choices.now s) in
    let states : List Check = state_checks x.dir x.model.now x.name x.factor.now x.values.now x.choices.now in
    let last : List Check = remainder_check x.values.now c.args.remainder.now ∷ [] in
    goes_on states last tt c.judged_at.result (c.in_ok-each_below.ensures {u = tt} ∙ ap (λ (n : ℕ). objection_to (flat_map checks (range_with_len 0 n))) c.states.ensures)
    (c.judged_at.ensures ∙ ap (λ (h : Option Bool). objection_to (record { rule = RemainderIsGreatest; state = None; choice = None; holds = h } ∷ [])) c.is_greatest.ensures)

use Rattle.std.proofs.{Common.{◌≡◌, ℕ, Ok, [], ◌∷◌, map, sym, ap, ◌∙◌, subst, arith}, lemmas.Result.{err_from_is_err_and}}
use Rattle.std.specs.List.{flat_map, range_with_len}
use Rattle.mdp_farkas.specs.Verdict.{objection_to}
use Rattle.mdp_farkas.proofs.Objections.{passed, stopped, each_alone}
use Rattle.mdp_farkas.proofs.walk.each_choice.Goals as goal

pub returns-in_err-check_at : goal.returns-in_err-check_at
returns-in_err-check_at g c =
    let p = err_from_is_err_and c.from_residual.result c.from_residual.ensures.1 in
    let check = g.C.OneCheck.check c.args.check in
    rw (p.1, p.2)
    (stopped (λ i. check i ∷ []) c.choices-c-end.result c.loop-c.c tt c.in_err-check_at.field-0.0 c.loop-c-test.true c.loop-c.invariant (c.in_err-check_at.ensures {u = tt})
    ∙ ap objection_to (sym (each_alone check (range_with_len 0 c.choices-c-end.result)) ∙ ap (λ (n : ℕ). map check (range_with_len 0 n)) c.choices-c-end.ensures))

pub loop-c-preserved : goal.loop-c-preserved
loop-c-preserved g c = passed (λ i. g.C.OneCheck.check c.args.check i ∷ []) c.loop-c.c tt tt c.loop-c.invariant (c.in_ok-check_at.ensures {u = tt})

pub returns : goal.returns
returns g c =
    let check = g.C.OneCheck.check c.args.check in
    let e : c.loop-c.c ≡ c.choices-c-end.result = omega arith in
    subst (λ (n : ℕ). Ok tt ≡ objection_to (flat_map (λ i. check i ∷ []) (range_with_len 0 n))) e c.loop-c.invariant
    ∙ ap objection_to (sym (each_alone check (range_with_len 0 c.choices-c-end.result)) ∙ ap (λ (n : ℕ). map check (range_with_len 0 n)) c.choices-c-end.ensures)

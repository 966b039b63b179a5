use Rattle.std.proofs.{Common.{◌≡◌, ℕ, Ok, subst, arith}, lemmas.Result.{err_from_is_err_and}}
use Rattle.std.specs.List.{flat_map, range_with_len}
use Rattle.mdp_farkas.specs.Verdict.{objection_to}
use Rattle.mdp_farkas.proofs.Objections.{passed, stopped}
use Rattle.mdp_farkas.proofs.walk.each_below.Goals as goal

pub returns-in_err-check : goal.returns-in_err-check
returns-in_err-check g c =
    let p = err_from_is_err_and c.from_residual.result c.from_residual.ensures.1 in
    rw (p.1, p.2)
    (stopped (g.C.Checks.checks c.args.checks) c.args.count c.loop-i.i tt c.in_err-check.field-0.0 c.loop-i-test.true c.loop-i.invariant (c.in_err-check.ensures {u = tt}))

pub loop-i-preserved : goal.loop-i-preserved
loop-i-preserved g c = passed (g.C.Checks.checks c.args.checks) c.loop-i.i tt tt c.loop-i.invariant (c.in_ok-check.ensures {u = tt})

pub returns : goal.returns
returns g c =
    let e : c.loop-i.i ≡ c.args.count = omega arith in
    subst (λ (n : ℕ). Ok tt ≡ objection_to (flat_map (g.C.Checks.checks c.args.checks) (range_with_len 0 n))) e c.loop-i.invariant

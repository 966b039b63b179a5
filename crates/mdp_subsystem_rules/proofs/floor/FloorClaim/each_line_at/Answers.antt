use Rattle.std.proofs.{Common.{◌≡◌, ℕ, ◌<◌, Ok, length, subst, arith}, lemmas.Result.{err_from_is_err_and}}
use Rattle.std.specs.List.{flat_map, range_with_len}
use Rattle.mdp_farkas.specs.Verdict.{objection_to}
use Rattle.mdp_farkas.proofs.Objections.{passed, stopped}
use Rattle.mdp_subsystem_rules.specs.FloorClaim.{line_at}
use Rattle.mdp_subsystem_rules.proofs.floor.FloorClaim.each_line_at.Goals as goal

pub returns-in_err-line_at : goal.returns-in_err-line_at
returns-in_err-line_at c =
    let x = c.args.self in
    let p = err_from_is_err_and c.from_residual.result c.from_residual.ensures.1 in
    let here : c.loop-i.i < length x.cert.now.kept.items = omega arith in
    rw (p.1, p.2)
    (stopped (line_at x) (length x.cert.now.kept.items) c.loop-i.i tt c.in_err-line_at.field-0.0 here
    c.loop-i.invariant (c.in_err-line_at.ensures {u = tt}))

pub loop-i-preserved : goal.loop-i-preserved
loop-i-preserved c =
    let x = c.args.self in
    passed (line_at x) c.loop-i.i tt tt c.loop-i.invariant (c.in_ok-line_at.ensures {u = tt})

pub returns : goal.returns
returns c =
    let x = c.args.self in
    let e : c.loop-i.i ≡ length x.cert.now.kept.items = omega arith in
    subst (λ (n : ℕ). Ok tt ≡ objection_to (flat_map (line_at x) (range_with_len 0 n))) e c.loop-i.invariant

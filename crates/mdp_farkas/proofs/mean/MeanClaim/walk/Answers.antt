use Rattle.std.proofs.{Common.{[], ◌∷◌, List}, lemmas.Result.{err_from_is_err_and}}
use Rattle.mdp_farkas.specs.{MeanClaim.{each_state}, Mean.{spread_check}, Verdict.{Check}}
use Rattle.mdp_farkas.proofs.Objections.{halts, goes_on}
use Rattle.mdp_farkas.proofs.mean.MeanClaim.walk.Goals as goal

pub returns-in_err-each_below : goal.returns-in_err-each_below
returns-in_err-each_below c =
    let x = c.args.self in
    let spread : List Check = spread_check x.bound.now x.bias.now c.args.spread.now ∷ [] in
    let p = err_from_is_err_and c.from_residual.result c.from_residual.ensures.1 in
    rw (p.1, p.2) (halts (each_state x) spread c.in_err-each_below.field-0.0 (rw c.states.ensures at (c.in_err-each_below.ensures {u = tt})))

pub returns : goal.returns
returns c =
    let x = c.args.self in
    let spread : List Check = spread_check x.bound.now x.bias.now c.args.spread.now ∷ [] in
    goes_on (each_state x) spread tt c.judged_at.result
    (rw c.states.ensures at (c.in_ok-each_below.ensures {u = tt})) (rw c.spread_holds-holds.ensures at c.judged_at.ensures)

use Rattle.std.proofs.lemmas.Result.{err_from_is_err_and}
use Rattle.mdp_discount.proofs.Ending.{ends-refused, ends-after}
use Rattle.mdp_discount.proofs.solve.solve_discount.Goals as goal

pub returns-in_err-found-clause-path : goal.returns-in_err-found-clause-path
returns-in_err-found-clause-path c =
    let p = err_from_is_err_and c.from_residual.result c.from_residual.ensures.1 in
    rw (p.1, p.2) (ends-refused c.args.dir c.args.model.now c.args.m c.args.name.now c.args.factor c.in_err-found.field-0.0 (c.in_err-found.ensures {u = tt}).path)

pub returns-clause-path : goal.returns-clause-path
returns-clause-path c =
    ends-after c.args.dir c.args.model.now c.args.m c.args.name.now c.args.factor c.in_ok-found.found c.certified.result (c.in_ok-found.ensures {u = tt}).path c.certified.ensures.path

use Rattle.std.proofs.lemmas.Result.{IfOk-weaker}
use Rattle.mdp_horizon.specs.{Finer.{unit_of}, Code.{plain_objective}}
use Rattle.mdp_horizon.proofs.{Gap.{near_by}, Between.{bounds-max_by, bounds-min_by, bounds-each}, Fineness.{unit-positive}}
use Rattle.mdp_horizon.proofs.bounds_induction.bounds_within.Goals as goal

pub returns-clause-lower : goal.returns-clause-lower
returns-clause-lower c =
    let m = c.args.model.now in
    let o = plain_objective c.args.objective in
    let n = c.args.steps in
    let u = unit_of m o c.args.digits n in
    let above = unit-positive m o c.args.digits n in
    IfOk-weaker c.finer_bounds.result _ _ (λ found h. (bounds-each c.args.dir u m o n _ above c.known.ensures.mdp h).0) c.finer_bounds.ensures

pub returns-clause-upper : goal.returns-clause-upper
returns-clause-upper c =
    let m = c.args.model.now in
    let o = plain_objective c.args.objective in
    let n = c.args.steps in
    let u = unit_of m o c.args.digits n in
    let above = unit-positive m o c.args.digits n in
    IfOk-weaker c.finer_bounds.result _ _ (λ found h. (bounds-each c.args.dir u m o n _ above c.known.ensures.mdp h).1) c.finer_bounds.ensures

pub returns-clause-max : goal.returns-clause-max
returns-clause-max c =
    let m = c.args.model.now in
    let o = plain_objective c.args.objective in
    let n = c.args.steps in
    let u = unit_of m o c.args.digits n in
    let above = unit-positive m o c.args.digits n in
    λ e. IfOk-weaker c.finer_bounds.result _ _ (λ found h. bounds-max_by c.args.dir u m o n _ e above c.known.ensures.mdp h) c.finer_bounds.ensures

pub returns-clause-min : goal.returns-clause-min
returns-clause-min c =
    let m = c.args.model.now in
    let o = plain_objective c.args.objective in
    let n = c.args.steps in
    let u = unit_of m o c.args.digits n in
    let above = unit-positive m o c.args.digits n in
    λ e. IfOk-weaker c.finer_bounds.result _ _ (λ found h. bounds-min_by c.args.dir u m o n _ e above c.known.ensures.mdp h) c.finer_bounds.ensures

pub returns-clause-gap : goal.returns-clause-gap
returns-clause-gap c =
    let m = c.args.model.now in
    let o = plain_objective c.args.objective in
    let n = c.args.steps in
    let u = unit_of m o c.args.digits n in
    let above = unit-positive m o c.args.digits n in
    IfOk-weaker c.finer_bounds.result _ _ (λ found h. near_by c.args.dir c.args.digits u m o n _ above c.known.ensures.mdp h) c.finer_bounds.ensures

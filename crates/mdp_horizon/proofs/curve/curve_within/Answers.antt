use Rattle.std.proofs.lemmas.Result.{IfOk-weaker}
use Rattle.mdp_horizon.specs.{Finer.{unit_of}, Code.{plain_objective}}
use Rattle.mdp_horizon.proofs.{Curves.{length_by, bounds_by, max_by, min_by, near_by}, Fineness.{unit-positive}}
use Rattle.mdp_horizon.proofs.curve.curve_within.Goals as goal

pub returns-clause-length : goal.returns-clause-length
returns-clause-length c =
    let m = c.args.model.now in
    let o = plain_objective c.args.objective in
    let n = c.args.steps in
    let u = unit_of m o c.args.digits n in
    let above = unit-positive m o c.args.digits n in
    IfOk-weaker c.finer_curve.result _ _ (λ found h. length_by u above m o c.known.ensures.mdp c.args.start n c.requires.start _ c.args.dir h) c.finer_curve.ensures

pub returns-clause-bounds : goal.returns-clause-bounds
returns-clause-bounds c =
    let m = c.args.model.now in
    let o = plain_objective c.args.objective in
    let n = c.args.steps in
    let u = unit_of m o c.args.digits n in
    let above = unit-positive m o c.args.digits n in
    IfOk-weaker c.finer_curve.result _ _ (λ found h. bounds_by u above m o c.known.ensures.mdp c.args.start n c.requires.start _ c.args.dir h) c.finer_curve.ensures

pub returns-clause-max : goal.returns-clause-max
returns-clause-max c =
    let m = c.args.model.now in
    let o = plain_objective c.args.objective in
    let n = c.args.steps in
    let u = unit_of m o c.args.digits n in
    let above = unit-positive m o c.args.digits n in
    λ e. IfOk-weaker c.finer_curve.result _ _ (λ found h. max_by u above m o c.known.ensures.mdp c.args.start n c.requires.start _ c.args.dir h e) c.finer_curve.ensures

pub returns-clause-min : goal.returns-clause-min
returns-clause-min c =
    let m = c.args.model.now in
    let o = plain_objective c.args.objective in
    let n = c.args.steps in
    let u = unit_of m o c.args.digits n in
    let above = unit-positive m o c.args.digits n in
    λ e. IfOk-weaker c.finer_curve.result _ _ (λ found h. min_by u above m o c.known.ensures.mdp c.args.start n c.requires.start _ c.args.dir h e) c.finer_curve.ensures

pub returns-clause-near : goal.returns-clause-near
returns-clause-near c =
    let m = c.args.model.now in
    let o = plain_objective c.args.objective in
    let n = c.args.steps in
    let u = unit_of m o c.args.digits n in
    let above = unit-positive m o c.args.digits n in
    IfOk-weaker c.finer_curve.result _ _ (λ found h. near_by u above m o c.known.ensures.mdp c.args.start n c.requires.start _ c.args.dir c.args.digits h) c.finer_curve.ensures

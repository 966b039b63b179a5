use Rattle.std.proofs.lemmas.Result.{IfOk-weaker}
use Rattle.mdp_horizon.specs.{Finer.{unit_of}, Objective.Objective.{until}}
use Rattle.mdp_horizon.proofs.{Curves.{finite_by}, Fineness.{unit-positive, unit-narrow}}
use Rattle.mdp_horizon.proofs.curve.until_curve.Goals as goal

pub returns-clause-finite : goal.returns-clause-finite
returns-clause-finite c =
    let m = c.args.model.now in
    let o = until c.args.stay.now c.args.goals.now in
    let d = c.args.digits in
    let n = c.args.steps in
    IfOk-weaker c.curve_within.result _ _
    (λ curve h.
    finite_by (unit_of m o d n) m c.args.stay.now c.args.goals.now c.args.dir c.args.start n _ (unit-positive m o d n) (unit-narrow m o d n c.requires.digits)
    c.known.ensures.mdp c.requires.start h) c.curve_within.ensures.written

use Rattle.std.proofs.lemmas.Result.{IfOk-weaker}
use Rattle.mdp_horizon.specs.{Finer.{unit_of}, Objective.Objective.{until}}
use Rattle.mdp_horizon.proofs.{Finite.{finite_by}, Fineness.{unit-positive, unit-narrow}}
use Rattle.mdp_horizon.proofs.bounds_induction.until_bounds.Goals as goal

pub returns-clause-finite : goal.returns-clause-finite
returns-clause-finite c =
    let m = c.args.model.now in
    let o = until c.args.stay.now c.args.goals.now in
    let d = c.args.digits in
    let n = c.args.steps in
    IfOk-weaker c.bounds_within.result _ _
    (λ found h.
    finite_by c.args.dir (unit_of m o d n) m c.args.stay.now c.args.goals.now n _ (unit-positive m o d n) (unit-narrow m o d n c.requires.digits) c.known.ensures.mdp h)
    c.bounds_within.ensures.written

use Rattle.mdp_check.proofs.Ways.{floor_shape_on, yes_sub_min}
use Rattle.mdp_check.proofs.until.until_floor_verdict.Goals as goal

pub holds_floor-requires-clause-shape : goal.holds_floor-requires-clause-shape
holds_floor-requires-clause-shape c =
    let cert = c.args.cert.now in
    floor_shape_on c.args.model.now c.in_ok-way.way c.in_ok-way.ensures.states cert.kept.items cert.wide.items cert.values.items cert.ranks.items c.requires.shape

pub returns-clause-sub_min : goal.returns-clause-sub_min
returns-clause-sub_min c =
    yes_sub_min c.args.model.now c.args.goals.now c.args.stay.now c.args.cert.now.kept.items c.args.start c.args.threshold c.known.ensures.mdp c.in_ok-way.way c.in_ok-way.ensures.way
    c.holds_floor.result c.holds_floor.ensures.sub_min

use Rattle.mdp_check.proofs.Ways.{flow_shape_on, yes_sub_max, yes_sub_within}
use Rattle.mdp_subsystem_rules.specs.Flow.{flow_total}
use Rattle.mdp_check.proofs.until.until_flow_verdict.Goals as goal

pub holds_flow-requires-clause-shape : goal.holds_flow-requires-clause-shape
holds_flow-requires-clause-shape c =
    let cert = c.args.cert.now in
    flow_shape_on c.args.model.now c.in_ok-way.way c.in_ok-way.ensures.states cert.kept.items cert.wide.items cert.flows.items c.requires.shape

pub returns-clause-sub_max : goal.returns-clause-sub_max
returns-clause-sub_max c =
    yes_sub_max c.args.model.now c.args.goals.now c.args.stay.now c.args.cert.now.kept.items c.args.start c.args.threshold c.known.ensures.mdp c.in_ok-way.way c.in_ok-way.ensures.way
    c.in_ok-verdict.verdict c.in_ok-verdict.ensures.sub_max

pub returns-clause-within : goal.returns-clause-within
returns-clause-within c =
    yes_sub_within c.args.model.now c.args.goals.now c.args.stay.now c.args.cert.now.kept.items c.args.start c.args.threshold c.known.ensures.mdp c.in_ok-way.way c.in_ok-way.ensures.way
    c.in_ok-verdict.verdict (flow_total c.args.cert.now.flows.items) c.in_ok-verdict.ensures.within

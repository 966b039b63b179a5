use Rattle.mdp_horizon.proofs.Answering.{until_max, until_min}
use Rattle.mdp_horizon.proofs.induction.until.Goals as goal

pub returns-clause-max : goal.returns-clause-max
returns-clause-max c = until_max c.args.model.now c.known.ensures.mdp c.args.steps c.args.dir _ c.args.stay.now c.args.goals.now c.values_within.ensures.written

pub returns-clause-min : goal.returns-clause-min
returns-clause-min c = until_min c.args.model.now c.known.ensures.mdp c.args.steps c.args.dir _ c.args.stay.now c.args.goals.now c.values_within.ensures.written

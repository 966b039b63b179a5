use Rattle.mdp_horizon.proofs.Answering.{total_max, total_min}
use Rattle.mdp_horizon.proofs.induction.total.Goals as goal

pub returns-clause-max : goal.returns-clause-max
returns-clause-max c = total_max c.args.model.now c.known.ensures.mdp c.args.steps c.args.dir _ c.args.name c.requires.named c.values_within.ensures.written

pub returns-clause-min : goal.returns-clause-min
returns-clause-min c = total_min c.args.model.now c.known.ensures.mdp c.args.steps c.args.dir _ c.args.name c.requires.named c.values_within.ensures.written

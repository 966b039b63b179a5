use Rattle.mdp_check.proofs.Ways.{way_states}
use Rattle.mdp_check.proofs.until.way_of.Goals as goal

pub returns-clause-states : goal.returns-clause-states
returns-clause-states c = way_states c.args.model.now c.args.goals.now c.in_ok-stays.stays c.cut.result c.cut.ensures

use Rattle.mdp_parts.proofs.AllAllowed.{all_sizes, all_true}
use Rattle.mdp_parts.proofs.allowed.Allowed.all.Goals as goal

pub returns-clause-sizes : goal.returns-clause-sizes
returns-clause-sizes c = all_sizes c.args.model.now c.in_ok-all_true.field-0 c.in_ok-all_true.ensures

pub returns-clause-each : goal.returns-clause-each
returns-clause-each c = all_true c.args.model.now c.in_ok-all_true.field-0 c.in_ok-all_true.ensures

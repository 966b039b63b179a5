use Rattle.std.proofs.Common.{◌∙◌}
use Rattle.mdp_bounds.proofs.Comparing.{le_test}
use Rattle.mdp_bounds.proofs.compare.at_most.Goals as goal

pub returns : goal.returns
returns c = c.ne.ensures ∙ le_test c.args.left.now c.args.right.now c.order.result c.order.ensures

use Rattle.std.proofs.Common.{Some, None, ◌∙◌}
use Rattle.mdp_bounds.proofs.Sums.{told_as}
use Rattle.mdp_bounds.proofs.sum.row_sum.Goals as goal

pub returns-in-Some : goal.returns-in-Some
returns-in-Some c = told_as c.args.values.now c.args.start.now c.args.row.targets.now c.args.row.probs.now c.args.row.same_length (Some c.in-Some.sum) c.in-Some.ensures

pub returns-in-None : goal.returns-in-None
returns-in-None c = c.sum.ensures ∙ told_as c.args.values.now c.args.start.now c.args.row.targets.now c.args.row.probs.now c.args.row.same_length None c.in-None.ensures

use Rattle.std.proofs.Common.{Some, None, ◌∙◌}
use Rattle.mdp_spec.specs.Bounds.{finite_part}
use Rattle.mdp_bounds.proofs.Sums.{told_as}
use Rattle.mdp_bounds.proofs.finite.finite_row_sum.Goals as goal

pub returns-in-Some : goal.returns-in-Some
returns-in-Some c = told_as (finite_part c.args.values.now) c.args.start.now c.args.row.targets.now c.args.row.probs.now c.args.row.same_length (Some c.in-Some.sum) c.in-Some.ensures

pub returns-in-None : goal.returns-in-None
returns-in-None c = c.finite_sum.ensures ∙ told_as (finite_part c.args.values.now) c.args.start.now c.args.row.targets.now c.args.row.probs.now c.args.row.same_length None c.in-None.ensures

use Rattle.std.proofs.Common.{sym, ◌∙◌}
use Rattle.mdp_search_bounds.proofs.Best.{good_same, good_of_test, good_of_no_test}
use Rattle.mdp_search_bounds.proofs.extent.better.Goals as goal

pub returns-then-improves-clause-as_best : goal.returns-then-improves-clause-as_best
returns-then-improves-clause-as_best c = good_of_test c.args.dir c.args.number.now c.args.best.now (sym c.improves.ensures ∙ c.if-improves.true)

pub returns-then-improves-clause-as_number : goal.returns-then-improves-clause-as_number
returns-then-improves-clause-as_number c = good_same c.args.dir c.args.number.now

pub returns-else-improves-clause-as_best : goal.returns-else-improves-clause-as_best
returns-else-improves-clause-as_best c = good_same c.args.dir c.args.best.now

pub returns-else-improves-clause-as_number : goal.returns-else-improves-clause-as_number
returns-else-improves-clause-as_number c = good_of_no_test c.args.dir c.args.number.now c.args.best.now (sym c.improves.ensures ∙ c.if-improves.false)

use Rattle.std.proofs.Common.{sym, ◌∙◌}
use Rattle.mdp_math.proofs.Extremes.{le_of_test, gt_of_test}
use Rattle.mdp_subsystem_search.proofs.query.Query.is_enough.Goals as goal

pub returns-clause-enough : goal.returns-clause-enough
returns-clause-enough c e = le_of_test c.args.self.now.threshold c.args.value.now (sym c.value_stands.ensures ∙ e)

pub returns-clause-less : goal.returns-clause-less
returns-clause-less c e = gt_of_test c.args.self.now.threshold c.args.value.now (sym c.value_stands.ensures ∙ e)

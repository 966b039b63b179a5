use Rattle.std.proofs.Common.{sym, subst}
use Rattle.mdp_graph.specs.Rounds.{AreRounds}
use Rattle.mdp_graph.proofs.falling.sure_rounds.Goals as goal

pub sure_pass-requires-clause-rounds : goal.sure_pass-requires-clause-rounds
sure_pass-requires-clause-rounds c = subst (AreRounds c.args.model.now c.args.goals.now) (sym c.deref.ensures.value) (c.in_ok-rounds.ensures {u = tt})

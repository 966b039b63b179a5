use Rattle.mdp_graph.proofs.Passes.{ranks_seen}
use Rattle.mdp_graph.proofs.reach.along.Goals as goal

pub returns-clause-marks : goal.returns-clause-marks
returns-clause-marks g c = c.in_ok-without_choices.ensures.reached _ _ _ (ranks_seen _ _ _ _ _ c.deref.ensures.value c.in_ok-ranks.ensures)

pub returns-clause-ranks : goal.returns-clause-ranks
returns-clause-ranks g c = c.in_ok-without_choices.ensures.least _ _ _ (ranks_seen _ _ _ _ _ c.deref.ensures.value c.in_ok-ranks.ensures)

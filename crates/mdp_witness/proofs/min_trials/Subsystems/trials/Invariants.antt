use Rattle.mdp_reach.specs.Query.{plain}
use Rattle.mdp_witness.specs.LeastEvaluation.{Evaluates, value_from}
use Rattle.mdp_witness.proofs.Trying.{AreLeftFrom}
use Rattle.mdp_witness.proofs.min_trials.Subsystems.trials.Given as goal

abbrev pub invariant-loop-s : goal.invariant-loop-s
invariant-loop-s l = AreLeftFrom (Evaluates l.self.model.now l.self.goals.now) (value_from l.self.start) l.threshold l.fn.first l.s l.kept l.wide (plain l.last)

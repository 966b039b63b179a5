use Rattle.mdp_witness.specs.{EvaluationCode.{plain}, Evaluation.{Visits, visited_value}}
use Rattle.mdp_witness.proofs.Trying.{AreLeftFrom}
use Rattle.mdp_witness.proofs.visited.Policy.trials.Given as goal

abbrev pub invariant-loop-s : goal.invariant-loop-s
invariant-loop-s l =
    AreLeftFrom (Visits l.self.model.now l.self.goals.now l.self.choices.now l.self.start) visited_value l.threshold l.fn.first l.s l.kept l.wide (plain l.last)

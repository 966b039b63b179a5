use Rattle.std.proofs.Common.{◌≡◌, Ok}
use Rattle.mdp_witness.specs.Evaluation.{arrivals_below}
use Rattle.mdp_witness.proofs.visited.Policy.arrivals.Given as goal

abbrev pub invariant-loop-s : goal.invariant-loop-s
invariant-loop-s l = arrivals_below l.self.model.now l.self.goals.now l.self.choices.now l.self.start l.set l.visits l.s ≡ Ok l.sum

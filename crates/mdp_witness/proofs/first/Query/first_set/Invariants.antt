use Rattle.mdp_witness.proofs.{Finding.{IsFinding}, Fronts.{left_to_do}}
use Rattle.mdp_witness.proofs.first.Query.first_set.Given as goal

abbrev pub invariant-loop-s : goal.invariant-loop-s
invariant-loop-s l = IsFinding l.self.dir l.self.model.now l.self.goals.now l.self.values.now l.self.policy.now l.start l.front

abbrev pub decreases-loop-s : goal.decreases-loop-s
decreases-loop-s l = left_to_do l.front

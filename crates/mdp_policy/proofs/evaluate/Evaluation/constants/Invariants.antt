use Rattle.std.proofs.Common.{◌≡◌, Ok}
use Rattle.mdp_policy_iteration.specs.Places.{up_to}
use Rattle.mdp_policy.specs.Written.{constant}
use Rattle.mdp_policy.proofs.evaluate.Evaluation.constants.Given as goal

abbrev pub invariant-loop-s : goal.invariant-loop-s
invariant-loop-s l = up_to (constant l.fn.self.model.now l.fn.self.goals.now l.fn.self.marks.now l.fn.self.policy.now) l.s ≡ Ok l.constants.items

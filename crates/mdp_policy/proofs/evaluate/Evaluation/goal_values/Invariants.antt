use Rattle.std.proofs.Common.{◌≡◌, map}
use Rattle.std.specs.List.{range_with_len}
use Rattle.mdp_policy.specs.Written.{goal_value}
use Rattle.mdp_policy.proofs.evaluate.Evaluation.goal_values.Given as goal

abbrev pub invariant-loop-s : goal.invariant-loop-s
invariant-loop-s l = l.values.items ≡ map (goal_value l.fn.self.goals.now) (range_with_len 0 l.s)

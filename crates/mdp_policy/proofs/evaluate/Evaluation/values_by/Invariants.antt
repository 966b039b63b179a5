use Rattle.std.proofs.Common.{◌≡◌, map}
use Rattle.std.specs.List.{range_with_len}
use Rattle.mdp_policy.specs.Written.{value_by}
use Rattle.mdp_policy.proofs.evaluate.Evaluation.values_by.Given as goal

abbrev pub invariant-loop-s : goal.invariant-loop-s
invariant-loop-s l = l.values.items ≡ map (value_by l.fn.self.goals.now l.solution) (range_with_len 0 l.s)

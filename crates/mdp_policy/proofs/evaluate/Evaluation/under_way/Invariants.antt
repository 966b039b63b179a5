use Rattle.std.proofs.Common.{◌≡◌, map}
use Rattle.std.specs.List.{range_with_len}
use Rattle.mdp_policy.specs.Written.{is_under_way}
use Rattle.mdp_policy.proofs.evaluate.Evaluation.under_way.Given as goal

abbrev pub invariant-loop-s : goal.invariant-loop-s
invariant-loop-s l = l.marks.items ≡ map (is_under_way l.fn.self.goals.now l.fn.self.marks.now) (range_with_len 0 l.s)

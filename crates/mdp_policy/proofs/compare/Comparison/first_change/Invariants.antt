use Rattle.std.proofs.Common.{◌≡◌, Ok, None}
use Rattle.mdp_policy.specs.Written.{first_change}
use Rattle.mdp_policy.proofs.compare.Comparison.first_change.Given as goal

abbrev pub invariant-loop-s : goal.invariant-loop-s
invariant-loop-s l = first_change l.fn.self.dir l.fn.self.model.now l.fn.self.goals.now l.fn.self.values.now l.s ≡ Ok None

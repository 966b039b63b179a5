use Rattle.std.proofs.Common.{◌≡◌, Ok}
use Rattle.mdp_policy.specs.Written.{best_of}
use Rattle.mdp_policy_iteration.specs.Code.{shown}
use Rattle.mdp_policy.proofs.compare.Comparison.best.Given as goal

abbrev pub invariant-loop-c : goal.invariant-loop-c
invariant-loop-c l = best_of l.fn.self.dir l.fn.self.model.now l.fn.self.values.now l.s l.c ≡ Ok (shown l.leader)

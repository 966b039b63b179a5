use Rattle.std.proofs.Common.{◌≡◌, Ok}
use Rattle.mdp_policy_iteration.specs.Path.{best_of}
use Rattle.mdp_policy_iteration.proofs.comparison.improvement.Given as goal

abbrev pub invariant-loop-c : goal.invariant-loop-c
invariant-loop-c g l = best_of (g.P.ShortestPath.problem l.problem) l.values l.s l.c ≡ Ok (record { value = l.best.value; choice = l.best.choice })

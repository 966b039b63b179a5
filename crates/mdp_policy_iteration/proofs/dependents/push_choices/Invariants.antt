use Rattle.mdp_policy_iteration.specs.DependentsOf.{AreDependentsTo}
use Rattle.mdp_policy_iteration.proofs.dependents.push_choices.Given as goal

abbrev pub invariant-loop-c : goal.invariant-loop-c
invariant-loop-c g l = AreDependentsTo (g.P.ShortestPath.problem l.problem) l.s l.c l.dependents

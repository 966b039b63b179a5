use Rattle.mdp_policy_iteration.specs.DependentsOf.{AreDependentsTo}
use Rattle.mdp_policy_iteration.proofs.dependents.dependents_of.Given as goal

abbrev pub invariant-loop-s : goal.invariant-loop-s
invariant-loop-s g l = AreDependentsTo (g.P.ShortestPath.problem l.problem) l.s 0 l.dependents

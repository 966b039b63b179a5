use Rattle.mdp_policy_iteration.specs.{Problem.{count}, Path.{improvement}, Changes.{IsChangeOf}}
use Rattle.mdp_policy_iteration.proofs.Collected.{AreCollected}
use Rattle.mdp_policy_iteration.proofs.comparison.improvements.Given as goal

abbrev pub invariant-loop-s : goal.invariant-loop-s
invariant-loop-s g l =
    let p = g.P.ShortestPath.problem l.problem in AreCollected (improvement p l.values) (count p) l.nodes (IsChangeOf p) l.s-index l.changes.items

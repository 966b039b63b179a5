use Rattle.std.proofs.Common.{◌≡◌, true}
use Rattle.mdp_policy_iteration.specs.{Problem.{count}, Path.{fits}}
use Rattle.mdp_policy_iteration.proofs.NodesAmong.{HoldSoFar}
use Rattle.mdp_policy_iteration.proofs.evaluation.check_rows_at.Given as goal

abbrev pub invariant-loop-s : goal.invariant-loop-s
invariant-loop-s g l = HoldSoFar l.nodes (count (g.P.ShortestPath.problem l.problem)) (λ s. fits (g.P.ShortestPath.problem l.problem) l.policy s ≡ true) l.s-index

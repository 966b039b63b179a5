use Rattle.std.proofs.Common.{◌≡◌, false}
use Rattle.mdp_policy_iteration.specs.Problem.{count, goes_on, taken}
use Rattle.mdp_policy_iteration.proofs.NodesAmong.{AreMade}
use Rattle.mdp_policy_iteration.proofs.evaluation.mark_active.Given as goal

abbrev pub invariant-loop-s : goal.invariant-loop-s
invariant-loop-s g l =
    AreMade l.nodes false (count (g.P.ShortestPath.problem l.problem)) (λ s b. b ≡ goes_on (taken (g.P.ShortestPath.problem l.problem) l.policy s)) l.s-index l.active

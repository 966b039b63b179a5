use Rattle.std.proofs.Common.{◌≡◌, Ok, pos}
use Rattle.mdp_math.specs.Rational.{of_int}
use Rattle.mdp_policy_iteration.specs.{Problem.{count}, Path.{constant}}
use Rattle.mdp_policy_iteration.proofs.NodesAmong.{AreMade}
use Rattle.mdp_policy_iteration.proofs.evaluation.put_constants.Given as goal

abbrev pub invariant-loop-s : goal.invariant-loop-s
invariant-loop-s g l =
    AreMade l.nodes (of_int (pos 0)) (count (g.P.ShortestPath.problem l.problem)) (λ s v. constant (g.P.ShortestPath.problem l.problem) l.policy s ≡ Ok v) l.s-index l.constants

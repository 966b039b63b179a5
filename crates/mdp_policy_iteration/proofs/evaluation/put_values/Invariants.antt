use Rattle.std.proofs.Common.{◌≡◌, pos}
use Rattle.mdp_math.specs.Rational.{of_int}
use Rattle.mdp_policy_iteration.specs.{Problem.{count, taken}, Path.{filled_by}}
use Rattle.mdp_policy_iteration.proofs.NodesAmong.{AreMade}
use Rattle.mdp_policy_iteration.proofs.evaluation.put_values.Given as goal

abbrev pub invariant-loop-s : goal.invariant-loop-s
invariant-loop-s g l =
    AreMade l.nodes (of_int (pos 0)) (count (g.P.ShortestPath.problem l.problem)) (λ s v. v ≡ filled_by l.solution s (taken (g.P.ShortestPath.problem l.problem) l.policy s)) l.s-index l.values

use Rattle.std.proofs.Common.{pos}
use Rattle.mdp_math.specs.Rational.{of_int}
use Rattle.mdp_policy_iteration.specs.Problem.{count}
use Rattle.mdp_policy_iteration.proofs.{NodesAmong.{AreMade}, Elsewhere.{IsStopValue}}
use Rattle.mdp_policy_iteration.proofs.evaluation.put_stop_values.Given as goal

abbrev pub invariant-loop-s : goal.invariant-loop-s
invariant-loop-s g l =
    AreMade l.nodes (of_int (pos 0)) (count (g.P.ShortestPath.problem l.problem)) (IsStopValue (g.P.ShortestPath.problem l.problem) l.policy l.nodes l.initial.values) l.s-index l.values

use Rattle.std.proofs.Common.{◌≡◌, map, take, ◌==◌}
use Rattle.mdp_graph.proofs.falling.zero_marks.Given as goal

abbrev pub invariant-loop-round : goal.invariant-loop-round
invariant-loop-round l = l.values.items ≡ map (λ r. r == 0) (take l.round-index l.rounds)

use Rattle.std.proofs.Common.{◌≡◌, map, take, is_none}
use Rattle.mdp_graph.proofs.avoid.marks_without.Given as goal

abbrev pub invariant-loop-rank : goal.invariant-loop-rank
invariant-loop-rank l = l.values.items ≡ map is_none (take l.rank-index l.ranks)

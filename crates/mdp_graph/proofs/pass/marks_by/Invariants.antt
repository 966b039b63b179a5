use Rattle.std.proofs.Common.{◌≡◌, map, take, is_some}
use Rattle.mdp_graph.proofs.pass.marks_by.Given as goal

abbrev pub invariant-loop-rank : goal.invariant-loop-rank
invariant-loop-rank l = l.values.items ≡ map is_some (take l.rank-index l.ranks)

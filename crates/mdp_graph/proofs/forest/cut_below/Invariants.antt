use Rattle.std.proofs.Common.{◌+◌, length}
use Rattle.mdp_graph.specs.Forest.{with_way}
use Rattle.mdp_graph.proofs.Pruning.{IsPruning}
use Rattle.mdp_graph.proofs.forest.cut_below.Given as goal

abbrev pub invariant-loop-b : goal.invariant-loop-b
invariant-loop-b l = IsPruning l.initial.ways.items l.ways.items l.fn.first.items l.pending.items l.broken.items

abbrev pub decreases-loop-b : goal.decreases-loop-b
decreases-loop-b l = with_way l.ways.items + length l.pending.items

use Rattle.std.proofs.Common.{◌+◌, length}
use Rattle.mdp_graph.specs.Forest.{without_way}
use Rattle.mdp_graph.proofs.Growing.{IsSpreading}
use Rattle.mdp_graph.proofs.forest.attach_all.Given as goal

abbrev pub invariant-loop-alloc : goal.invariant-loop-alloc
invariant-loop-alloc l = IsSpreading l.model l.goals l.allowed l.initial.ways.items l.ways.items l.fn.first.items l.layer.items

abbrev pub decreases-loop-alloc : goal.decreases-loop-alloc
decreases-loop-alloc l = without_way l.ways.items + length l.layer.items

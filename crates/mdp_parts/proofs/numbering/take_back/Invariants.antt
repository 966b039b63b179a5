use Rattle.std.proofs.Common.{◌+◌, length}
use Rattle.mdp_graph.specs.Ranking.{unranked}
use Rattle.mdp_parts.proofs.Grouping.{IsTaking}
use Rattle.mdp_parts.proofs.numbering.take_back.Given as goal

abbrev pub invariant-loop-alloc : goal.invariant-loop-alloc
invariant-loop-alloc l = IsTaking l.back l.root l.number l.fn.numbers.items l.numbers.items l.layer.items

abbrev pub decreases-loop-alloc : goal.decreases-loop-alloc
decreases-loop-alloc l = unranked l.numbers.items + length l.layer.items

use Rattle.std.proofs.Common.{◌+◌, length}
use Rattle.mdp_graph.specs.{Sets.{marked}, Ranking.{unranked}}
use Rattle.mdp_graph.proofs.RankFacts.{IsLayered}
use Rattle.mdp_graph.proofs.ranking.ranks_by.Given as goal

abbrev pub invariant-loop-alloc : goal.invariant-loop-alloc
invariant-loop-alloc l = IsLayered l.preds (marked l.first) l.states l.ranks.items l.layer.items l.rank

abbrev pub decreases-loop-alloc : goal.decreases-loop-alloc
decreases-loop-alloc l = unranked l.ranks.items + length l.layer.items

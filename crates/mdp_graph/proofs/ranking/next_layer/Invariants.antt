use Rattle.std.proofs.Common.{take, []}
use Rattle.mdp_graph.specs.{Edges.{predecessors_of}, Ranking.{IsGiven}}
use Rattle.mdp_graph.proofs.ranking.next_layer.Given as goal

abbrev pub invariant-loop-t : goal.invariant-loop-t
invariant-loop-t l = IsGiven l.initial.ranks.items [] l.ranks.items l.next.items (predecessors_of l.preds (take l.t-index l.layer)) l.rank

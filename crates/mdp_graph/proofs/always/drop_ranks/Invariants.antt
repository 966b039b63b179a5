use Rattle.mdp_graph.proofs.Dropping.{AreDropped}
use Rattle.mdp_graph.proofs.always.drop_ranks.Given as goal

abbrev pub invariant-loop-s : goal.invariant-loop-s
invariant-loop-s l = AreDropped l.initial.ranks.items l.marks l.s l.ranks.items

use Rattle.std.proofs.Common.{take}
use Rattle.mdp_graph.specs.Ranking.{IsGiven}
use Rattle.mdp_graph.proofs.ranking.give_rank.Given as goal

abbrev pub invariant-loop-s : goal.invariant-loop-s
invariant-loop-s l = IsGiven l.initial.ranks.items l.initial.list.items l.ranks.items l.list.items (take l.s-index l.states) l.rank

use Rattle.std.proofs.Common.{◌≡◌, map, take}
use Rattle.mdp_graph.specs.Choices.{plain_rank}
use Rattle.mdp_graph.proofs.pass.plain_ranks.Given as goal

abbrev pub invariant-loop-rank : goal.invariant-loop-rank
invariant-loop-rank l = l.plain.items ≡ map plain_rank (take l.rank-index l.ranks)

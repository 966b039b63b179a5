use Rattle.std.proofs.Common.{◌≡◌}
use Rattle.mdp_graph.specs.{Falling.{IsRound}, Forest.{all_preds}, Ranking.{unranked}}
use Rattle.mdp_graph.proofs.falling.falling_rounds.Given as goal

abbrev pub invariant-loop-alloc : goal.invariant-loop-alloc
invariant-loop-alloc l =
    (l.falling.layers.preds ≡ all_preds l.model) × IsRound l.model l.goals l.falling.layers.ranks.items l.round l.falling.layers.waiting l.falling.ways.items l.fell.items

abbrev pub decreases-loop-alloc : goal.decreases-loop-alloc
decreases-loop-alloc l = unranked l.falling.layers.ranks.items

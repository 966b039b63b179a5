use Rattle.std.proofs.Common.{◌≡◌, ◌+◌, ◌-◌, ◌≤◌, ℕ, List, length}
use Rattle.mdp_edge.specs.{declared.reading.TheConstants.{MOST_PIECE}, Bytes.{Gave}}
use Rattle.mdp_drn.specs.Feeding.{HasRead}
use Rattle.mdp_drn.proofs.from_source.feed_all.Given as goal

abbrev pub invariant-reading : goal.invariant-reading
invariant-reading g l = record {
  read : (so_far : List ℕ) × Gave (g.S.Source.left l.initial.source) (g.S.Source.left l.source) so_far × (length so_far ≡ l.total) × HasRead l.feed so_far;
  rule : l.feed.rule ≡ l.initial.feed.rule;
  most : l.total ≤ l.limit + MOST_PIECE;
  still : g.S.Source.faults l.source ≡ g.S.Source.faults l.initial.source;
}

abbrev pub decreases-reading : goal.decreases-reading
decreases-reading g l = (l.limit + 1) - l.total

use Rattle.std.proofs.Common.{◌≡◌, ◌+◌, ◌-◌, ◌≤◌, vec_len}
use Rattle.mdp_edge.specs.{Bytes.{Gave}, declared.reading.TheConstants.{MOST_PIECE}}
use Rattle.mdp_edge.proofs.reading.read_all.Given as goal

abbrev pub invariant-reading : goal.invariant-reading
invariant-reading g l = record {
  gave : Gave (g.S.Source.left l.initial.source) (g.S.Source.left l.source) l.bytes.items;
  most : vec_len l.bytes ≤ l.limit + MOST_PIECE;
  still : g.S.Source.faults l.source ≡ g.S.Source.faults l.initial.source;
}

abbrev pub decreases-reading : goal.decreases-reading
decreases-reading g l = (l.limit + 1) - vec_len l.bytes

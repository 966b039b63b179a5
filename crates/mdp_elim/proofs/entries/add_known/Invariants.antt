use Rattle.std.proofs.Common.{ℕ, ◌≡◌, length}
use Rattle.mdp_elim.specs.Entries.{Between, plus_row}
use Rattle.mdp_elim.proofs.entries.add_known.Given as goal

abbrev pub invariant-loop-x : goal.invariant-loop-x
invariant-loop-x l = record {
  same : plus_row l.times l.source l.fn.row ≡ plus_row l.times l.left l.row;
  row : (high : ℕ) × Between 0 high l.row;
  left : (high : ℕ) × Between 0 high l.left;
}

abbrev pub decreases-loop-x : goal.decreases-loop-x
decreases-loop-x l = length l.left

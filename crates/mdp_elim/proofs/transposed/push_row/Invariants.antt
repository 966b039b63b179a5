use Rattle.std.proofs.Common.{◌≡◌, ℕ, drop, length}
use Rattle.mdp_spec.specs.Row.{entries}
use Rattle.mdp_elim.specs.{Predecessors.{at}, Visits.{with_row}}
use Rattle.mdp_elim.proofs.transposed.push_row.Given as goal

abbrev pub invariant-loop-i : goal.invariant-loop-i
invariant-loop-i l = record {
  count : length l.equations ≡ length l.initial.equations;
  row : (s : ℕ) → with_row l.active l.t (entries l.row.targets.now l.row.probs.now) s (at l.initial.equations s)
      ≡ with_row l.active l.t (entries (drop l.i l.row.targets.now) (drop l.i l.row.probs.now)) s (at l.equations s);
}

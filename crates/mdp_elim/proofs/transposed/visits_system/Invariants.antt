use Rattle.std.proofs.Common.{◌≡◌, ℕ, ◌<◌, length}
use Rattle.mdp_elim.specs.{Predecessors.{at}, Visits.{visits_below}}
use Rattle.mdp_elim.proofs.transposed.visits_system.Given as goal

abbrev pub invariant-loop-t : goal.invariant-loop-t
invariant-loop-t g l = record {
  count : length l.equations.items ≡ length (g.R.RowsOf.rows l.chain.rows.now);
  rows : (s : ℕ) → s < length (g.R.RowsOf.rows l.chain.rows.now) → at l.equations.items s ≡ visits_below (g.R.RowsOf.rows l.chain.rows.now) l.chain.active.now l.start l.t s;
}

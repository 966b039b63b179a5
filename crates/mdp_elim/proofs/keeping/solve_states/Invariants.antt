use Rattle.std.proofs.Common.{◌≡◌, ℕ, ◌≤◌, false, length, map}
use Rattle.mdp_rows.specs.Preds.{is_among}
use Rattle.mdp_elim.specs.{Predecessors.{at}, System.{system}, Kept.{LeadToSmaller}}
use Rattle.mdp_elim.proofs.Solving.{AreTried}
use Rattle.mdp_elim.proofs.keeping.solve_states.Given as goal

abbrev pub invariant-loop-i : goal.invariant-loop-i
invariant-loop-i g l = record {
  within : l.i ≤ length l.states;
  count : length l.solved ≡ length (g.R.RowsOf.rows l.rows);
  down : LeadToSmaller l.solved;
  others : (u : ℕ) → is_among u l.states ≡ false → at l.solved u ≡ at l.initial.solved u;
  tried : AreTried l.states (system (g.R.RowsOf.rows l.rows) l.active (map (λ c. c.items) l.columns)) (length (g.R.RowsOf.rows l.rows)) l.i l.solved l.wide;
}

abbrev pub decreases-loop-i : goal.decreases-loop-i
decreases-loop-i g l = l.i

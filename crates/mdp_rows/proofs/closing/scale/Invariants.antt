use Rattle.std.proofs.Common.{◌≡◌}
use Rattle.mdp_rows.specs.{Draft.{row_total}, Given.{row_of}}
use Rattle.mdp_rows.proofs.ClosedRows.Scaling.{scaled_to, over}
use Rattle.mdp_rows.proofs.closing.scale.Given as goal

abbrev pub invariant-loop-i : goal.invariant-loop-i
invariant-loop-i l = row_of l.row ≡ scaled_to (over (row_total (row_of l.initial.row))) l.i (row_of l.initial.row)

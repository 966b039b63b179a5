use Rattle.mdp_rows.proofs.ClosedRows.Denominators.{IsDenFrom}
use Rattle.mdp_rows.proofs.closing.common_den.Given as goal

abbrev pub invariant-loop-i : goal.invariant-loop-i
invariant-loop-i l = IsDenFrom l.row l.i l.den

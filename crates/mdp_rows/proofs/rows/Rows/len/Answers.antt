use Rattle.std.proofs.Common.{arith}
use Rattle.mdp_rows.proofs.Flat.Rows.{rows_len}
use Rattle.mdp_rows.proofs.rows.Rows.len.Goals as goal

pub returns : goal.returns
returns c = omega (arith, rows_len _ _ c.self.view_is, c.len.ensures)

use Rattle.std.proofs.Common.{arith}
use Rattle.mdp_rows.proofs.Flat.StateLabels.{names_len}
use Rattle.mdp_rows.proofs.state_labels.StateLabels.names.Goals as goal

pub returns : goal.returns
returns c = let n = names_len _ _ c.self.view_is in omega (arith, n, c.len.ensures)

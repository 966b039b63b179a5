use Rattle.std.proofs.Common.{arith}
use Rattle.mdp_rows.proofs.Flat.Labels.{states_are}
use Rattle.mdp_rows.proofs.labels.Labels.states.Goals as goal

pub returns : goal.returns
returns c = omega (arith, states_are _ _ c.self.view_is, c.len.ensures)

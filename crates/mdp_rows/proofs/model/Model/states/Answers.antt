use Rattle.std.proofs.Common.{arith}
use Rattle.mdp_rows.proofs.Flat.Models.{states_are}
use Rattle.mdp_rows.proofs.model.Model.states.Goals as goal

pub returns : goal.returns
returns c = omega (arith, states_are _ _ c.self.invariant c.self.view_is, c.len.ensures)

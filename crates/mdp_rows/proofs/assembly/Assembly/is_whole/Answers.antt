use Rattle.mdp_rows.proofs.Assembled.Finished.{counted_is}
use Rattle.mdp_rows.proofs.assembly.Assembly.is_whole.Goals as goal

pub returns : goal.returns
returns c = counted_is c.self.inside _ c.states.result c.self.view_is c.self.invariant c.states.ensures

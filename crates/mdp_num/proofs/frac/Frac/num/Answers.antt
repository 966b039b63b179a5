use Rattle.mdp_num.proofs.Values.{num-bits, narrow_value}
use Rattle.mdp_num.proofs.frac.Frac.num.Goals as goal

pub returns : goal.returns
returns c = record { value = num-bits _ _ c.self.view_is c.self.invariant; narrow = narrow_value _ _ c.self.view_is c.self.invariant }

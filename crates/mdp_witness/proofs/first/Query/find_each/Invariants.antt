use Rattle.std.proofs.Common.{take}
use Rattle.mdp_spec.specs.Mdp.{states_of}
use Rattle.mdp_witness.specs.FrontCode.{with_state}
use Rattle.mdp_witness.proofs.Fronts.{IsFound}
use Rattle.mdp_witness.proofs.first.Query.find_each.Given as goal

abbrev pub invariant-loop-t : goal.invariant-loop-t
invariant-loop-t l = IsFound l.initial.front l.front (with_state l.self.goals.now l.self.values.now) (take l.t-index l.targets) (states_of l.self.model.now)

use Rattle.mdp_subsystem_rules.proofs.{FlowTelling.{flow_refuted}, FloorTelling.{floor_refuted}}
use Rattle.mdp_subsystem_rules.proofs.laws.refuted_law.Goals as goal

pub returns : goal.returns
returns c = record { flow = flow_refuted; floor = floor_refuted }

use Rattle.mdp_subsystem_rules.proofs.Saying.{flow_says_all, floor_says_all}
use Rattle.mdp_subsystem_rules.proofs.laws.says_law.Goals as goal

pub returns : goal.returns
returns c = record { flow = flow_says_all; floor = floor_says_all }

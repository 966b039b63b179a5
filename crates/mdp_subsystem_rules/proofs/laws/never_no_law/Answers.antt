use Rattle.mdp_subsystem_rules.proofs.{FlowRules.{flow_never_no}, FloorRules.{floor_never_no}}
use Rattle.mdp_subsystem_rules.proofs.laws.never_no_law.Goals as goal

pub returns-clause-flow : goal.returns-clause-flow
returns-clause-flow c = λ m goals start threshold kept wide flows fault h shape r. flow_never_no m goals start threshold kept wide flows h shape r fault

pub returns-clause-floor : goal.returns-clause-floor
returns-clause-floor c = λ m goals start threshold kept wide values ranks fault each h shape r. floor_never_no m goals start threshold kept wide values ranks each h shape r fault

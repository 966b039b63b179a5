use Rattle.mdp_subsystem_rules.proofs.{Flows.{sub_max_of_flow, sub_max_within_of_flow}, Policies.{policy_within_of_flow}}
use Rattle.mdp_subsystem_rules.proofs.laws.flow_law.Goals as goal

pub returns-clause-shows : goal.returns-clause-shows
returns-clause-shows c = λ m goals kept flows start threshold known h f. (
  sub_max_of_flow m goals kept flows start threshold known h f,
  sub_max_within_of_flow m goals kept flows start threshold known h f,
)

pub returns-clause-policy : goal.returns-clause-policy
returns-clause-policy c = λ m goals kept flows start threshold policy known choice h along f. policy_within_of_flow m goals kept flows start threshold policy known choice h f along

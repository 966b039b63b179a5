use Rattle.mdp_subsystem_rules.proofs.Made.{floor_of_reach_min, flow_of_visits, visits_of_policy, visits_bound}
use Rattle.mdp_subsystem_rules.proofs.laws.made_law.Goals as goal

pub returns-clause-floor : goal.returns-clause-floor
returns-clause-floor c = λ m goals kept z policy ranks start threshold known h no_goal r reached. floor_of_reach_min m goals kept z policy ranks start threshold known h no_goal r reached

pub returns-clause-flow : goal.returns-clause-flow
returns-clause-flow c = λ m goals kept policy start y threshold known choice visits no_goal reached. (
  flow_of_visits m goals kept policy start y known choice visits threshold no_goal reached,
  visits_of_policy m goals kept policy start y known choice visits,
)

pub returns-clause-bound : goal.returns-clause-bound
returns-clause-bound c = λ m goals kept policy start y known choice h visits no_goal n. visits_bound m goals kept policy start y known choice h visits no_goal n

use Rattle.mdp_spec.specs.Mdp.{states_of}
use Rattle.mdp_subsystem_rules.specs.{Flow.{flow_value}, Visits.{visit_flows}}
use Rattle.mdp_subsystem_rules.proofs.{Made.{visits_bound}, Policies.{short_of_min, short_of_bound, not_sub_min}}
use Rattle.mdp_subsystem_rules.proofs.laws.short_law.Goals as goal

pub returns-clause-least : goal.returns-clause-least
returns-clause-least c = λ m goals kept more start threshold z policy known inc h r less. short_of_min m goals kept more start threshold policy known inc h z r less

pub returns-clause-policy : goal.returns-clause-policy
returns-clause-policy c = λ m goals kept more start threshold x policy known inc h choice bound less. short_of_bound m goals kept more start threshold policy known inc h x choice bound less

pub returns-clause-visits : goal.returns-clause-visits
returns-clause-visits c = λ m goals kept more start threshold policy y known inc h choice visits no_goal less.
    short_of_bound m goals kept more start threshold policy known inc h (flow_value m goals (visit_flows (states_of m) policy y) start) choice
    (visits_bound m goals more policy start y known choice h visits no_goal) less

pub returns-clause-no_floor : goal.returns-clause-no_floor
returns-clause-no_floor c = λ m goals kept start threshold policy known h choice short sub. not_sub_min m goals kept start threshold policy known h choice short sub

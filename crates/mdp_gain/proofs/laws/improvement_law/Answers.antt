use Rattle.mdp_gain.proofs.Improving.{step_improves, no_policy_twice}
use Rattle.mdp_gain.proofs.laws.improvement_law.Goals as goal

pub returns-clause-step : goal.returns-clause-step
returns-clause-step c = step_improves c.solution_law.ensures.solves

pub returns-clause-none_twice : goal.returns-clause-none_twice
returns-clause-none_twice c = no_policy_twice c.solution_law.ensures.solves

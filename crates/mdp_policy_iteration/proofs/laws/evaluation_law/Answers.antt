use Rattle.mdp_policy_iteration.proofs.Ending.{has_one_value, evaluates_exactly}
use Rattle.mdp_policy_iteration.proofs.laws.evaluation_law.Goals as goal

pub returns-clause-one_value : goal.returns-clause-one_value
returns-clause-one_value c = has_one_value

pub returns-clause-exact : goal.returns-clause-exact
returns-clause-exact c = evaluates_exactly c.solution_law.ensures.solves

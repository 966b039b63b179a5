use Rattle.mdp_policy_iteration.proofs.{Ending.{has_one_end, ends_at_best}, Optimal.{best_of_all}}
use Rattle.mdp_policy_iteration.proofs.laws.path_law.Goals as goal

pub returns-clause-one_end : goal.returns-clause-one_end
returns-clause-one_end c = has_one_end c.solution_law.ensures.solves

pub returns-clause-best : goal.returns-clause-best
returns-clause-best c = ends_at_best c.solution_law.ensures.solves

pub returns-clause-of_all : goal.returns-clause-of_all
returns-clause-of_all c = best_of_all

use Rattle.mdp_elim.proofs.OneSolution.{has_one_visits, has_positive_pivots_transposed, gives_visits}
use Rattle.mdp_elim.proofs.laws.visits_law.Goals as goal

pub returns-clause-one_solution : goal.returns-clause-one_solution
returns-clause-one_solution c = has_one_visits

pub returns-clause-pivots : goal.returns-clause-pivots
returns-clause-pivots c = has_positive_pivots_transposed

pub returns-clause-solves : goal.returns-clause-solves
returns-clause-solves c = gives_visits

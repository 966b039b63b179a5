use Rattle.mdp_elim.proofs.OneSolution.{has_one_solution, has_positive_pivots, gives_solutions}
use Rattle.mdp_elim.proofs.laws.solution_law.Goals as goal

pub returns-clause-one_solution : goal.returns-clause-one_solution
returns-clause-one_solution c = has_one_solution

pub returns-clause-pivots : goal.returns-clause-pivots
returns-clause-pivots c = has_positive_pivots

pub returns-clause-solves : goal.returns-clause-solves
returns-clause-solves c = gives_solutions

use Rattle.mdp_policy_iteration.proofs.Ending.{steps_improve}
use Rattle.mdp_policy_iteration.proofs.laws.step_law.Goals as goal

pub returns : goal.returns
returns c = steps_improve c.solution_law.ensures.solves

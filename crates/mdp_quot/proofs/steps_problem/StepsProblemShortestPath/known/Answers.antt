use Rattle.mdp_quot.proofs.StepsNodes.{steps-known}
use Rattle.mdp_quot.proofs.steps_problem.StepsProblemShortestPath.known.Goals as goal

pub returns : goal.returns
returns c = steps-known c.args.self.now.quotient.now c.known.ensures

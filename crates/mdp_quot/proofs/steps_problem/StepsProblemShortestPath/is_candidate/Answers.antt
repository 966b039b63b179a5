use Rattle.std.proofs.Common.{sym}
use Rattle.mdp_quot.proofs.StepsNodes.{steps-candidate}
use Rattle.mdp_quot.proofs.steps_problem.StepsProblemShortestPath.is_candidate.Goals as goal

pub returns : goal.returns
returns c = sym (steps-candidate c.args.self.now.quotient.now c.args._s c.requires.node c.args._c c.requires.choice)

use Rattle.std.proofs.Common.{sym}
use Rattle.mdp_quot.proofs.StepsNodes.{steps-fits}
use Rattle.mdp_quot.proofs.steps_problem.StepsProblemShortestPath.fits.Goals as goal

pub returns : goal.returns
returns c = sym (steps-fits c.args.self.now.quotient.now c.args._s c.requires.node c.args._c c.requires.choice)

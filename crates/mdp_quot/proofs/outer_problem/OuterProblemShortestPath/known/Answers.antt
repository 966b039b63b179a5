use Rattle.mdp_quot.proofs.OuterNodes.{outer-known}
use Rattle.mdp_quot.proofs.outer_problem.OuterProblemShortestPath.known.Goals as goal

pub returns : goal.returns
returns c = outer-known c.args.self.now.dir c.args.self.now.quotient.now c.args.self.now.gains.now c.known.ensures

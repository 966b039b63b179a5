use Rattle.std.proofs.Common.{◌∙◌, sym}
use Rattle.mdp_quot.proofs.OuterNodes.{outer-count}
use Rattle.mdp_quot.proofs.outer_problem.OuterProblemShortestPath.count.Goals as goal

pub returns : goal.returns
returns c = c.nodes.ensures ∙ sym (outer-count c.args.self.now.dir c.args.self.now.quotient.now c.args.self.now.gains.now)

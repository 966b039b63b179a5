use Rattle.std.proofs.Common.{◌∙◌, sym}
use Rattle.mdp_quot.proofs.StepsNodes.{steps-count}
use Rattle.mdp_quot.proofs.steps_problem.StepsProblemShortestPath.count.Goals as goal

pub returns : goal.returns
returns c = c.nodes.ensures ∙ sym (steps-count c.args.self.now.quotient.now)

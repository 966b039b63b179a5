use Rattle.std.proofs.Common.{◌∙◌, sym, arith}
use Rattle.mdp_quot.proofs.StepsNodes.{steps-count, steps-goes}
use Rattle.mdp_quot.proofs.steps_problem.StepsProblemShortestPath.goes_on.Goals as goal

pub has_exits-requires : goal.has_exits-requires
has_exits-requires c = omega (arith, c.requires.node, steps-count c.args.self.now.quotient.now)

pub returns : goal.returns
returns c = c.has_exits.ensures ∙ sym (steps-goes c.args.self.now.quotient.now c.args.s c.requires.node c.args._c c.requires.choice)

use Rattle.std.proofs.Common.{◌∙◌, length, sym, ap, arith}
use Rattle.mdp_quot.proofs.StepsNodes.{steps-count, steps-choices}
use Rattle.mdp_quot.proofs.steps_problem.StepsProblemShortestPath.choices.Goals as goal

pub exits-requires : goal.exits-requires
exits-requires c = omega (arith, c.requires, steps-count c.args.self.now.quotient.now)

pub returns : goal.returns
returns c = ap length c.exits.ensures ∙ sym (steps-choices c.args.self.now.quotient.now c.args.s c.requires)

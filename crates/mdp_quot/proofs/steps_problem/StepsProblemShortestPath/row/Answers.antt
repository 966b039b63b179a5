use Rattle.std.proofs.Common.{◌∙◌, ◌<◌, sym, subst, arith}
use Rattle.std.specs.List.{All}
use Rattle.mdp_quot.proofs.StepsNodes.{steps-count, steps-row}
use Rattle.mdp_quot.proofs.steps_problem.StepsProblemShortestPath.row.Goals as goal

pub row-requires-clause-node : goal.row-requires-clause-node
row-requires-clause-node c = omega (arith, c.requires.node, steps-count c.args.self.now.quotient.now)

pub row-requires-clause-exit : goal.row-requires-clause-exit
row-requires-clause-exit c = (steps-row c.args.self.now.quotient.now c.args.s c.requires.node c.args.c c.requires.choice c.requires.goes_on).0

pub returns-clause-row : goal.returns-clause-row
returns-clause-row c = c.row.ensures.row ∙ sym (steps-row c.args.self.now.quotient.now c.args.s c.requires.node c.args.c c.requires.choice c.requires.goes_on).1

pub returns-clause-in_range : goal.returns-clause-in_range
returns-clause-in_range c = subst (λ n. All (λ t. t < n) c.row.result.targets.now) (sym (steps-count c.args.self.now.quotient.now)) c.row.ensures.in_range

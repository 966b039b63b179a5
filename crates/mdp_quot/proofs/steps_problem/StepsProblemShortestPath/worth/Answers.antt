use Rattle.std.proofs.Common.{◌∙◌, ◌<◌, List, sym, ap₂, subst, arith}
use Rattle.std.specs.List.{All}
use Rattle.mdp_math.specs.Rational.{ℚ}
use Rattle.mdp_spec.specs.{Mdp.{Entry}, Written.{written_sum}}
use Rattle.mdp_quot.proofs.StepsNodes.{steps-count, steps-choice, steps-written}
use Rattle.mdp_quot.proofs.steps_problem.StepsProblemShortestPath.worth.Goals as goal

pub row-row-requires-clause-node : goal.row-row-requires-clause-node
row-row-requires-clause-node c = omega (arith, c.requires.node, steps-count c.args.self.now.quotient.now)

pub row-row-requires-clause-exit : goal.row-row-requires-clause-exit
row-row-requires-clause-exit c = (steps-choice c.args.self.now.quotient.now c.args.s c.args.c c.requires.node c.requires.choice).0

pub sum-requires : goal.sum-requires
sum-requires c = subst (λ n. All (λ t. t < n) c.row-row.result.targets.now) (sym (c.requires.values ∙ steps-count c.args.self.now.quotient.now)) c.row-row.ensures.in_range

pub returns : goal.returns
returns c =
    c.sum.ensures
    ∙ ap₂ (λ (v : ℚ) (r : List Entry). written_sum c.args.values.now v r) c.whole.ensures c.row-row.ensures.row
    ∙ sym (steps-written c.args.self.now.quotient.now c.args.s c.requires.node c.args.c c.args.values.now c.requires.choice)

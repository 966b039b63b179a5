use Rattle.std.proofs.Common.{◌∙◌, Bool, sym, ap, arith, if◌then◌else◌, pos}
use Rattle.mdp_math.specs.Rational.{of_int}
use Rattle.mdp_quot.proofs.StepsNodes.{steps-count, steps-amount}
use Rattle.mdp_quot.proofs.steps_problem.StepsProblemShortestPath.amount.Goals as goal

pub has_exits-requires : goal.has_exits-requires
has_exits-requires c = omega (arith, c.requires.node, steps-count c.args.self.now.quotient.now)

pub returns-then-has_exits : goal.returns-then-has_exits
returns-then-has_exits c =
    c.whole.ensures
    ∙ sym (steps-amount c.args.self.now.quotient.now c.args.s c.requires.node c.args._c c.requires.choice
    ∙ ap (λ (b : Bool). if b then of_int (pos 1) else of_int (pos 0)) (sym c.has_exits.ensures ∙ c.if-has_exits.true))

pub returns-else-has_exits : goal.returns-else-has_exits
returns-else-has_exits c =
    c.whole-else-has_exits.ensures
    ∙ sym (steps-amount c.args.self.now.quotient.now c.args.s c.requires.node c.args._c c.requires.choice
    ∙ ap (λ (b : Bool). if b then of_int (pos 1) else of_int (pos 0)) (sym c.has_exits.ensures ∙ c.if-has_exits.false))

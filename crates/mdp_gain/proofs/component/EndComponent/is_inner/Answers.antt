use Rattle.std.proofs.Common.{◌∙◌, sym, arith}
use Rattle.mdp_gain.proofs.Given.{state-below, choice-below, inner-count, inner-width, inner-in, inner-out}
use Rattle.mdp_gain.proofs.component.EndComponent.is_inner.Goals as goal

pub inside-requires-clause-state : goal.inside-requires-clause-state
inside-requires-clause-state c =
    let n = inner-count c.args.self.now in
    let l = state-below c.args.self.now c.args.s c.requires.state in
    omega arith

pub inside-requires-clause-choice : goal.inside-requires-clause-choice
inside-requires-clause-choice c =
    let n = inner-width c.args.self.now c.args.s (state-below c.args.self.now c.args.s c.requires.state) in
    let l = choice-below c.args.self.now c.args.s c.args.c c.requires.state c.requires.choice in
    omega arith

pub returns-then-holds : goal.returns-then-holds
returns-then-holds c =
    c.inside.ensures ∙ inner-in c.args.self.now c.args.s c.args.c c.requires.state c.requires.choice (sym c.holds.ensures ∙ c.if-holds.true)

pub returns-else-holds : goal.returns-else-holds
returns-else-holds c =
    c.if-holds.false ∙ inner-out c.args.self.now c.args.s c.args.c c.requires.state c.requires.choice (sym c.holds.ensures ∙ c.if-holds.false)

use Rattle.std.proofs.Common.{◌∙◌, ◌<◌, sym, subst}
use Rattle.std.specs.List.{All}
use Rattle.mdp_gain.proofs.Given.{count-is, state-below, choice-below, row-is}
use Rattle.mdp_gain.proofs.component.EndComponent.row.Goals as goal

pub row-requires-clause-state : goal.row-requires-clause-state
row-requires-clause-state c = state-below c.args.self.now c.args.s c.requires.state

pub row-requires-clause-choice : goal.row-requires-clause-choice
row-requires-clause-choice c = choice-below c.args.self.now c.args.s c.args.c c.requires.state c.requires.choice

pub returns-clause-row : goal.returns-clause-row
returns-clause-row c = c.row.ensures.row ∙ sym (row-is c.args.self.now c.args.s c.args.c c.requires.state c.requires.choice)

pub returns-clause-in_range : goal.returns-clause-in_range
returns-clause-in_range c = subst (λ n. All (λ t. t < n) c.row.result.targets.now) (sym (count-is c.args.self.now)) c.row.ensures.in_range

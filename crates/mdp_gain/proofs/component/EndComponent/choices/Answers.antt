use Rattle.std.proofs.Common.{◌∙◌, sym}
use Rattle.mdp_gain.proofs.Given.{state-below, choices-are}
use Rattle.mdp_gain.proofs.component.EndComponent.choices.Goals as goal

pub choices-requires : goal.choices-requires
choices-requires c = state-below c.args.self.now c.args.s c.requires.state

pub returns : goal.returns
returns c = c.choices.ensures ∙ sym (choices-are c.args.self.now c.args.s c.requires.state)

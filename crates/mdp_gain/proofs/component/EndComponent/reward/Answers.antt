use Rattle.std.proofs.Common.{◌∙◌, sym}
use Rattle.mdp_gain.proofs.Given.{state-below, choice-below, reward-is}
use Rattle.mdp_gain.proofs.component.EndComponent.reward.Goals as goal

pub reward-requires-clause-state : goal.reward-requires-clause-state
reward-requires-clause-state c = state-below c.args.self.now c.args.s c.requires.state

pub reward-requires-clause-choice : goal.reward-requires-clause-choice
reward-requires-clause-choice c = choice-below c.args.self.now c.args.s c.args.c c.requires.state c.requires.choice

pub returns : goal.returns
returns c = c.reward.ensures ∙ sym (reward-is c.args.self.now c.args.s c.args.c c.requires.state c.requires.choice)

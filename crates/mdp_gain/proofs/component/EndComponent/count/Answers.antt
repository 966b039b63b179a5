use Rattle.std.proofs.Common.{◌∙◌, sym}
use Rattle.mdp_gain.proofs.Given.{count-is}
use Rattle.mdp_gain.proofs.component.EndComponent.count.Goals as goal

pub returns : goal.returns
returns c = c.states.ensures ∙ sym (count-is c.args.self.now)

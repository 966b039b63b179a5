use Rattle.std.proofs.Common.{◌∙◌}
use Rattle.mdp_rows.proofs.Assembled.Stages.{no_target, marked_is, none_past}
use Rattle.mdp_rows.proofs.assembly.Assembly.has_target.Goals as goal

pub returns-in_default : goal.returns-in_default
returns-in_default c = no_target _ _ c.args.target c.self.view_is c.in_default.not-InRow

pub returns-then-target-self : goal.returns-then-target-self
returns-then-target-self c = c.at.ensures ∙ marked_is c.self.inside _ c.args.target c.self.view_is c.self.invariant c.in-InRow.is c.if-target-self.true

pub returns-else-target-self : goal.returns-else-target-self
returns-else-target-self c = none_past c.self.inside _ c.args.target c.self.view_is c.self.invariant c.in-InRow.is c.if-target-self.false

use Rattle.std.proofs.Common.{◌∙◌}
use Rattle.mdp_rows.proofs.Flat.Models.{all_choices_are}
use Rattle.mdp_rows.proofs.model.Model.all_choices.Goals as goal

pub returns : goal.returns
returns c = c.len.ensures ∙ all_choices_are _ _ c.self.invariant c.self.view_is

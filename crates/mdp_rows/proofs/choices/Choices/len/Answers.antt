use Rattle.std.proofs.Common.{◌∙◌}
use Rattle.mdp_rows.proofs.Flat.Choices.{choices_len}
use Rattle.mdp_rows.proofs.choices.Choices.len.Goals as goal

pub returns : goal.returns
returns c = c.len.ensures ∙ choices_len _ _ c.self.view_is

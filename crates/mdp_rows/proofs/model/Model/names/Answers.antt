use Rattle.std.proofs.Common.{length, ap, ◌∙◌}
use Rattle.mdp_rows.proofs.Flat.Models.{names_are}
use Rattle.mdp_rows.proofs.model.Model.names.Goals as goal

pub returns : goal.returns
returns c = c.names.ensures ∙ ap length (names_are _ _ c.self.view_is)

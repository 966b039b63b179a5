use Rattle.std.proofs.Common.{length, ap, ◌∙◌}
use Rattle.mdp_rows.proofs.Flat.Models.{label_names_are}
use Rattle.mdp_rows.proofs.model.Model.labels.Goals as goal

pub returns : goal.returns
returns c = c.names.ensures ∙ ap length (label_names_are _ _ c.self.view_is)

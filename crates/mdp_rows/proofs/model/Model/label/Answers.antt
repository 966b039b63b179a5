use Rattle.std.proofs.Common.{ap, ◌∙◌}
use Rattle.mdp_spec.specs.Labels.{place_of}
use Rattle.mdp_rows.proofs.Flat.Models.{label_names_are}
use Rattle.mdp_rows.proofs.model.Model.label.Goals as goal

pub returns : goal.returns
returns c = c.place.ensures ∙ ap (place_of c.args.name.now) (label_names_are _ _ c.self.view_is)

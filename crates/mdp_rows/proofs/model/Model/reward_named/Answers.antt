use Rattle.std.proofs.Common.{ap, ◌∙◌}
use Rattle.mdp_spec.specs.Labels.{place_of}
use Rattle.mdp_rows.proofs.Flat.Models.{names_are}
use Rattle.mdp_rows.proofs.model.Model.reward_named.Goals as goal

pub returns : goal.returns
returns c = c.place.ensures ∙ ap (place_of c.args.name.now) (names_are _ _ c.self.view_is)

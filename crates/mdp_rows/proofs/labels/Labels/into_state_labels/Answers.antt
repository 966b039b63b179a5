use Rattle.std.proofs.Common.{refl, ◌∙◌}
use Rattle.mdp_rows.proofs.Flat.StateLabels.{moved}
use Rattle.mdp_rows.proofs.labels.Labels.into_state_labels.Goals as goal

pub returns : goal.returns
returns c =
    let (p, from, whole, made) = (c.in_ok-names.ensures {u = tt}).runs tt in
    let gives = c.into_iter.ensures.into_iter_gives in
    moved c.self.inside _ _ c.self.view_is (made.0 ∙ (gives.2 p p.seen).4 whole ∙ from ∙ gives.0) refl refl

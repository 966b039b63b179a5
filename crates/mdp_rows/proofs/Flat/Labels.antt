-- What the flat vectors say of the labels.
use Rattle.std.proofs.Common.{◌≡◌, ◌-◌, length, sym, ap, ◌∙◌}
use Rattle.mdp_rows.specs.{FlatLabels.{labels_in, names_of}, Labelling.{Labelling}, Pieces.{pieces}, declared.labels.Labels.TheInside.{Inside}}
use Rattle.mdp_rows.proofs.Flat.Pieces.{length-pieces}

pub of_state_is : (a : Inside) (v : Labelling) → labels_in a ≡ v → pieces a.places.items a.starts.items ≡ v.of_state
unfolding labels_in
of_state_is a v is = ap (λ (x : Labelling). x.of_state) is

pub names_are : (a : Inside) (v : Labelling) → labels_in a ≡ v → names_of a.names ≡ v.names
unfolding labels_in
names_are a v is = ap (λ (x : Labelling). x.names) is

pub states_are : (a : Inside) (v : Labelling) → labels_in a ≡ v → length v.of_state ≡ length a.starts.items - 1
states_are a v is = ap length (sym (of_state_is a v is)) ∙ length-pieces a.places.items a.starts.items

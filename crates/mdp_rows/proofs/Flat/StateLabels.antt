-- What the flat vectors of a model say of the labels.
use Rattle.std.proofs.{Common.{◌≡◌, ◌-◌, length, sym, ap, ◌∙◌}, lemmas.List.{length-map}}
use Rattle.mdp_rows.specs.{FlatChoices.{bytes_of}, FlatStateLabels.{state_labels_in}, Labelling.{Labelling}, Pieces.{pieces}}
use Rattle.mdp_rows.specs.{declared.state_labels.StateLabels.TheInside.{Inside}, declared.labels.Labels.TheInside.{Inside as BuilderInside}, FlatLabels.{labels_in}}
use Rattle.mdp_rows.proofs.Flat.Pieces.{length-pieces}

pub of_state_is : (a : Inside) (v : Labelling) → state_labels_in a ≡ v → pieces a.places.items a.starts.items ≡ v.of_state
unfolding state_labels_in
of_state_is a v is = ap (λ (x : Labelling). x.of_state) is

pub names_are : (a : Inside) (v : Labelling) → state_labels_in a ≡ v → bytes_of a.names.items ≡ v.names
unfolding state_labels_in
names_are a v is = ap (λ (x : Labelling). x.names) is

pub names_len : (a : Inside) (v : Labelling) → state_labels_in a ≡ v → length a.names.items ≡ length v.names
names_len a v is = sym (length-map a.names.items (λ n. n.items)) ∙ ap length (names_are a v is)

pub states_are : (a : Inside) (v : Labelling) → state_labels_in a ≡ v → length v.of_state ≡ length a.starts.items - 1
states_are a v is = ap length (sym (of_state_is a v is)) ∙ length-pieces a.places.items a.starts.items

-- the labels of a builder, from its names in their order
pub moved : (b : BuilderInside) (a : Inside) (v : Labelling) → labels_in b ≡ v → a.names.items ≡ b.names.keys → a.starts ≡ b.starts → a.places ≡ b.places → state_labels_in a ≡ v
unfolding labels_in state_labels_in
moved b a v is names starts places = rw (names, starts, places) is

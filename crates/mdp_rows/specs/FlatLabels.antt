-- The labels that flat vectors hold.
use Rattle.std.specs.{Prelude.{ℕ, ◌<◌, ◌≤◌, ◌^◌, List, length, map}, Global.{Vec}}
use Rattle.indexmap.specs.IndexSet.{IndexSet}
use Rattle.mdp_rows.specs.{Labelling.{Labelling}, Pieces.{pieces, ArePlaces}, declared.labels.Labels.TheInside.{Inside}}

abbrev pub names_of : {S : Type 0} → IndexSet (Vec ℕ) S → List (List ℕ)
names_of s = map (λ v. v.items) s.keys

unfoldable pub labels_in : Inside → Labelling
labels_in a = record { names = names_of a.names; of_state = pieces a.places.items a.starts.items }

pub record AreLabels (a : Inside) : Type 0 where
  pub places : ArePlaces a.starts.items (length a.places.items)
  pub few_states : length a.starts.items < 2 ^ 32
  pub few_places : length a.places.items < 2 ^ 32
  pub few_names : length a.names.keys ≤ 2 ^ 10

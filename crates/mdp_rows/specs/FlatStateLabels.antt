-- The labels that the flat vectors of a model hold.
use Rattle.std.specs.Prelude.{◌≤◌, ◌^◌, length}
use Rattle.mdp_rows.specs.{FlatChoices.{bytes_of}, Labelling.{Labelling}, Pieces.{pieces, ArePlaces}, declared.state_labels.StateLabels.TheInside.{Inside}}

unfoldable pub state_labels_in : Inside → Labelling
state_labels_in a = record { names = bytes_of a.names.items; of_state = pieces a.places.items a.starts.items }

pub record AreStateLabels (a : Inside) : Type 0 where
  pub places : ArePlaces a.starts.items (length a.places.items)
  pub few_names : length a.names.items ≤ 2 ^ 10

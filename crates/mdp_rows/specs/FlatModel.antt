-- The model that flat vectors hold.
use Rattle.std.specs.Prelude.{◌≡◌, ℕ, ◌+◌, ◌-◌, ◌<◌, ◌≤◌, List, [], ◌∷◌, length, slice_index, All}
use Rattle.mdp_spec.specs.Mdp.{Choice, State, Mdp}
use Rattle.mdp_rows.specs.{Limits.{max_states, max_choices, IsModel}, Pieces.{pieces, ArePlaces}, declared.model.Model.TheInside.{Inside}}

-- the states, from the choices and from the labels of each
abbrev pub states_from : List (List Choice) → List (List ℕ) → List State
states_from [] labels = []
states_from (choices ∷ more) [] = []
states_from (choices ∷ more) (labels ∷ others) = record { labels = labels; choices = choices } ∷ states_from more others

unfoldable pub mdp_in : Inside → Mdp
mdp_in m = record {
  names = m.choices.names;
  labels = m.labels.names;
  states = states_from (pieces m.choices.choices m.starts.items) m.labels.of_state;
}

pub record IsFlat (m : Inside) : Type 0 where
  pub few_rows : length m.choices.choices ≤ max_choices
  pub places : ArePlaces m.starts.items (length m.choices.choices)
  pub some : 1 < length m.starts.items
  pub few : length m.starts.items ≤ max_states + 1
  pub choice : (s : ℕ) → s + 1 < length m.starts.items → slice_index m.starts.items s < slice_index m.starts.items (s + 1)
  pub labels : length m.labels.of_state ≡ length m.starts.items - 1
  pub in_range : All (λ c. All (λ x. x.target < length m.starts.items - 1) c.row) m.choices.choices
  pub model : IsModel (mdp_in m)

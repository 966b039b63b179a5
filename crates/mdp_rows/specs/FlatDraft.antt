-- The draft that a builder's vectors hold.
use Rattle.std.specs.Prelude.{◌≡◌, ◌≢◌, ℕ, ◌+◌, ◌*◌, ◌<◌, ◌≤◌, Bool, List, [], length, drop, sum_by, slice_index, All, Option, Some, None}
use Rattle.mdp_math.specs.Rational.{ℚ}
use Rattle.mdp_spec.specs.Mdp.{Choice}
use Rattle.mdp_rows.specs.{Limits.{max_states, max_choices, max_entries, max_labels_of_state}, Pieces.{pieces, ArePlaces}, FlatModel.{states_from}}
use Rattle.mdp_rows.specs.{Given.{row_of}, GivenRow.{in_order, IsGivenRow}, Draft.{Draft, OpenState, OpenChoice}, declared.given.Given.{Given}}
use Rattle.mdp_rows.specs.{declared.assembly.Stage.{Stage}, declared.assembly.Stage.TheVariants.{Between, InState, InRow}}
use Rattle.mdp_rows.specs.declared.assembly.Assembly.TheInside.{Inside}

-- the open state, where there is one, with its open choice, where there is one
abbrev pub open_in : Stage → OpenState → OpenChoice → Option OpenState
open_in Between o c = None
open_in InState o c = Some o
open_in InRow o c = Some (record o { choice = Some c })

-- the choices of the open state
abbrev pub open_choices : Inside → List Choice
open_choices b = drop b.first_choice b.choices.choices

-- the open state without its open choice, and that choice
abbrev pub state_in : Inside → OpenState
state_in b = record { rewards = b.rewards.items; labels = b.places.items; label_calls = b.label_calls; choices = open_choices b; choice = None }

abbrev pub choice_in : Inside → OpenChoice
choice_in b = record { rewards = b.sums.items; row = in_order (row_of b.row.items) }

unfoldable pub draft_in : Inside → Draft
draft_in b = record {
  announced = b.announced;
  rule = b.rule;
  names = b.choices.names;
  labels = b.labels.names;
  closed = states_from (pieces b.choices.choices b.starts.items) b.labels.of_state;
  state = open_in b.stage (state_in b) (choice_in b);
  entries = b.entries;
  refused = b.refused;
}

-- how many rows are open
abbrev pub open_rows : Stage → ℕ
open_rows Between = 0
open_rows InState = 0
open_rows InRow = 1

-- an open state is one of those announced
abbrev pub open_states : Stage → ℕ
open_states Between = 0
open_states InState = 1
open_states InRow = 1

-- the closed states: where the choices of each start, and its labels
pub record AreStatesIn (announced : ℕ) (starts : List ℕ) (end : ℕ) (labels : List (List ℕ)) : Type 0 where
  pub some : 0 < announced
  pub few : announced ≤ max_states
  pub places : ArePlaces starts end
  pub choice : (s : ℕ) → s + 1 < length starts → slice_index starts s < slice_index starts (s + 1)
  pub labelled : length labels + 1 ≡ length starts
  pub label_total : sum_by length labels ≤ max_labels_of_state * length labels

-- the labels and the rewards of the open state, and the rewards of its open choice
pub record IsHeadIn (stage : Stage) (names : ℕ) (places : List ℕ) (label_calls : ℕ) (rewards sums : List ℚ) : Type 0 where
  pub few_places : length places ≤ label_calls
  pub few_calls : label_calls ≤ max_labels_of_state
  pub own : stage ≢ Between → length rewards ≡ names
  pub summed : stage ≡ InRow → length sums ≡ names

-- the closed choices, of which those from the first one on are the open state's
pub record AreChoicesIn (announced : ℕ) (stage : Stage) (first : ℕ) (choices : List Choice) : Type 0 where
  pub inside : first ≤ length choices
  pub closed_up : stage ≡ Between → first ≡ length choices
  pub few_rows : length choices + open_rows stage ≤ max_choices
  pub in_range : All (λ c. All (λ x. x.target < announced) c.row) choices

-- the open row, with a mark at each of its targets, and how many entries were given
pub record IsRowIn (announced : ℕ) (stage : Stage) (choices : List Choice) (row : List Given) (marks : List Bool) (entries : ℕ) : Type 0 where
  pub idle : stage ≢ InRow → row ≡ []
  pub given : IsGivenRow announced (row_of row) marks
  pub total : sum_by (λ c. length c.row) choices + length row ≤ entries
  pub few_entries : entries ≤ max_entries

-- with the state that is open the states aren't more than were announced
pub record IsDraft (b : Inside) : Type 0 where
  pub states : AreStatesIn b.announced b.starts.items b.first_choice b.labels.of_state
  pub room : length b.starts.items + open_states b.stage ≤ b.announced + 1
  pub head : IsHeadIn b.stage (length b.choices.names) b.places.items b.label_calls b.rewards.items b.sums.items
  pub choices : AreChoicesIn b.announced b.stage b.first_choice b.choices.choices
  pub row : IsRowIn b.announced b.stage b.choices.choices b.row.items b.targets b.entries

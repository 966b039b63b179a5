-- What each draft keeps, so that the model it ends as is an `IsModel`.
use Rattle.std.specs.{Prelude.{◌≡◌, ℕ, ◌+◌, ◌<◌, ◌≤◌, IsTrue, List, [], ◌∷◌, ◌++◌, length, sum_by, Option, Some, None, Result, Ok}, List.{All}, Option.{IfSome}}
use Rattle.mdp_num.specs.Meaning.{IsWithinLimit}
use Rattle.mdp_spec.specs.{Mdp.{State, Mdp}, Row.{ascends_from, IsRow}}
use Rattle.mdp_rows.specs.Name.{IsName, AreRewardNames, are_different}
use Rattle.mdp_rows.specs.Limits.{max_states, max_choices, max_entries, max_labels, max_labels_of_state, places_ascend, in_order_of_sight, HasSmallTerms, IsChoiceWithin, IsStateWithin, IsModel}
use Rattle.mdp_rows.specs.{Draft.{Draft, OpenState, OpenChoice}, declared.error.RowsError.{RowsError}}

-- the open choice: its rewards, and its row with all values given
pub record IsOpenChoice (announced names : ℕ) (c : OpenChoice) : Type 0 where
  pub rewards : length c.rewards ≡ names
  pub terms : All HasSmallTerms c.rewards
  pub ascending : IsTrue (ascends_from 0 c.row)
  pub in_range : All (λ x. x.target < announced) c.row
  pub values : All (λ x. IsWithinLimit x.prob) c.row

-- the open state, which may have no choice as yet
pub record IsOpenState (announced names : ℕ) (o : OpenState) : Type 0 where
  pub rewards : length o.rewards ≡ names
  pub ascending : IsTrue (places_ascend 0 o.labels)
  pub few_labels : length o.labels ≤ o.label_calls
  pub few_calls : o.label_calls ≤ max_labels_of_state
  pub choices : All (IsChoiceWithin names) o.choices
  pub rows : All (λ c. IsRow announced c.row) o.choices
  pub choice : IfSome o.choice (IsOpenChoice announced names)

pub record IsClosedState (announced names : ℕ) (x : State) : Type 0 where
  pub some : 0 < length x.choices
  pub within : IsStateWithin names x
  pub rows : All (λ c. IsRow announced c.row) x.choices

-- the state that is open, as it would close now
abbrev pub open_state : Option OpenState → List State
open_state None = []
open_state (Some o) = record { labels = o.labels; choices = o.choices } ∷ []

-- the states so far, that which is open last
abbrev pub states_so_far : Draft → List State
states_so_far d = d.closed ++ open_state d.state

abbrev pub choice_count : List State → ℕ
choice_count states = sum_by (λ x. length x.choices) states

abbrev pub entry_count : List State → ℕ
entry_count states = sum_by (λ x. sum_by (λ c. length c.row) x.choices) states

-- the choices that are open, and the entries of the open row
abbrev pub opened_choices : Option OpenChoice → ℕ
opened_choices None = 0
opened_choices (Some c) = 1

abbrev pub opened_entries : Option OpenChoice → ℕ
opened_entries None = 0
opened_entries (Some c) = length c.row

abbrev pub open_choices : Option OpenState → ℕ
open_choices None = 0
open_choices (Some o) = opened_choices o.choice

abbrev pub open_entries : Option OpenState → ℕ
open_entries None = 0
open_entries (Some o) = opened_entries o.choice

pub record IsSound (d : Draft) : Type 0 where
  pub names : AreRewardNames d.names
  pub some : 1 ≤ d.announced
  pub few : d.announced ≤ max_states
  pub few_states : length (states_so_far d) ≤ d.announced
  pub labels : All IsName d.labels
  pub different : IsTrue (are_different d.labels)
  pub few_labels : length d.labels ≤ max_labels
  pub sight : IsTrue (in_order_of_sight 0 (states_so_far d) (length d.labels))
  pub closed : All (IsClosedState d.announced (length d.names)) d.closed
  pub state : IfSome d.state (IsOpenState d.announced (length d.names))
  pub few_choices : choice_count (states_so_far d) + open_choices d.state ≤ max_choices
  pub counted : entry_count (states_so_far d) + open_entries d.state ≤ d.entries
  pub few_entries : d.entries ≤ max_entries

-- a builder's draft is sound as long as nothing was refused
abbrev pub IsGood : Draft → Type 0
IsGood d = d.refused ≡ None → IsSound d

-- what comes out keeps what each model keeps
abbrev pub FinishesModel : Result Mdp RowsError → Type 0
FinishesModel finished = (m : Mdp) → finished ≡ Ok m → IsModel m

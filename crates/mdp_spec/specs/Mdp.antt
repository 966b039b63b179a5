-- A finite Markov decision process, as contracts see it (Puterman 1994, section 2.1).
--     Mdp      its reward names, its label names in order of first sight, and its states, numbered from 0
--     State    the places of its labels in the model's list, ascending, and its choices, numbered from 0
--     Choice   its row, and for each reward name the reward of the state and the choice together
--     Entry    where a row leads, and with which probability
use Rattle.std.specs.{Prelude.{ℕ, Bool, List, [], length, slice_index_or, ◌==◌, pos}, List.{list_any}}
use Rattle.mdp_math.specs.Rational.{ℚ, of_int}

pub record Entry : Type 0 where
  pub target : ℕ
  pub prob : ℚ

pub record Choice : Type 0 where
  pub row : List Entry
  pub rewards : List ℚ

pub record State : Type 0 where
  pub labels : List ℕ
  pub choices : List Choice

pub record Mdp : Type 0 where
  pub names : List (List ℕ)
  pub labels : List (List ℕ)
  pub states : List State

-- what stands past the end of a list
abbrev pub no_choice : Choice
no_choice = record { row = []; rewards = [] }

abbrev pub no_state : State
no_state = record { labels = []; choices = [] }

-- how many states there are, and how many choices a state has
abbrev pub states_of : Mdp → ℕ
states_of m = length m.states

abbrev pub state_at : Mdp → ℕ → State
state_at m s = slice_index_or m.states s no_state

abbrev pub choices_at : Mdp → ℕ → List Choice
choices_at m s = (state_at m s).choices

-- choice c at state s, and its row
abbrev pub choice_at : Mdp → ℕ → ℕ → Choice
choice_at m s c = slice_index_or (choices_at m s) c no_choice

abbrev pub row_at : Mdp → ℕ → ℕ → List Entry
row_at m s c = (choice_at m s c).row

-- whether state s has the label of place l
abbrev pub has_label : Mdp → ℕ → ℕ → Bool
has_label m l s = list_any (λ k. k == l) (state_at m s).labels

-- the value of state s in a list of one value per state
abbrev pub value_at : List ℚ → ℕ → ℚ
value_at z s = slice_index_or z s (of_int (pos 0))

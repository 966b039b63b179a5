-- The states of the end components of a model, as contracts see them.
use Rattle.std.specs.Prelude.{◌≡◌, ℕ, ◌<◌, true, List, [], ◌∷◌, ◌++◌, length, Option, Some, None, slice_index, slice_index_or, slice_set}
use Rattle.mdp_spec.specs.Mdp.{Mdp, states_of}
use Rattle.mdp_ends.specs.Ends.{count_of, in_part}
use Rattle.mdp_unichain.specs.Part.{members}
use Rattle.mdp_gain.specs.Alone.{place_in}

-- for each end component its states, and for each state of the model its place among those of its end component
pub record FoundMembers : Type 0 where
  pub lists : List (List ℕ)
  pub places : List ℕ

-- the list of part i
abbrev pub list_of : FoundMembers → ℕ → List ℕ
list_of x i = slice_index_or x.lists i []

-- a place for each state of the model, and for those of part i the one in this list
pub record ArePlaces (m : Mdp) (parts : List (Option ℕ)) (i : ℕ) (states places : List ℕ) : Type 0 where
  pub one_each : length places ≡ states_of m
  pub each : (s : ℕ) → s < states_of m → in_part parts i s ≡ true → slice_index places s ≡ place_in states s

-- the states of each part, ascending, and their places
pub record AreMembersOf (m : Mdp) (parts : List (Option ℕ)) (x : FoundMembers) : Type 0 where
  pub one_each : length x.lists ≡ count_of parts
  pub lists : (i : ℕ) → i < count_of parts → list_of x i ≡ members m parts i
  pub places : (i : ℕ) → i < count_of parts → ArePlaces m parts i (members m parts i) x.places

-- what follows once state s of this part is put behind the others of its part
abbrev pub lists_with : FoundMembers → ℕ → Option ℕ → List (List ℕ)
lists_with x s None = x.lists
lists_with x s (Some i) = slice_set x.lists i (list_of x i ++ s ∷ [])

abbrev pub place_next : FoundMembers → Option ℕ → ℕ
place_next x None = 0
place_next x (Some i) = length (list_of x i)

abbrev pub with_state : FoundMembers → ℕ → Option ℕ → FoundMembers
with_state x s part = record { lists = lists_with x s part; places = x.places ++ place_next x part ∷ [] }

-- there is a list for this part, and its length is in width
abbrev pub HasRoom : FoundMembers → Option ℕ → Type 0
HasRoom x None = Unit {0}
HasRoom x (Some i) = (i < length x.lists) × (length (list_of x i) < 4294967296)

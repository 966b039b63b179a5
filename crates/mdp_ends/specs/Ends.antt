-- End components (de Alfaro 1997; Baier and Katoen 2008, section 10.6.3), and the maximal ones of a model.
use Rattle.std.specs.Prelude.{◌≡◌, ℕ, ◌<◌, Bool, true, false, ◌==◌, List, length, Option, Some, None, slice_index_or}
use Rattle.mdp_spec.specs.Mdp.{Entry, Mdp, states_of, choices_at, row_at}
use Rattle.mdp_graph.specs.Sets.{stays_in}
use Rattle.mdp_ends.specs.{Walks.{Reaches}, Numbers.{is_numbered, count_from}}

-- a nonempty set of states with chosen choices, at least one at each, whose targets are in the set and by which each state comes to each
pub record IsEnd (m : Mdp) (set : ℕ → Bool) (chosen : ℕ → ℕ → Bool) : Type 0 where
  pub some : (s : ℕ) × (s < states_of m) × (set s ≡ true)
  pub choice : (s : ℕ) → s < states_of m → set s ≡ true → (c : ℕ) × (c < length (choices_at m s)) × (chosen s c ≡ true)
  pub closed : (s c : ℕ) → s < states_of m → set s ≡ true → c < length (choices_at m s) → chosen s c ≡ true → stays_in set (row_at m s c) ≡ true
  pub joined : (s t : ℕ) → s < states_of m → t < states_of m → set s ≡ true → set t ≡ true → Reaches m chosen s t

-- each state of the first and each choice that is chosen there is one of the second
pub record IsWithin (m : Mdp) (set : ℕ → Bool) (chosen : ℕ → ℕ → Bool) (big : ℕ → Bool) (more : ℕ → ℕ → Bool) : Type 0 where
  pub states : (s : ℕ) → s < states_of m → set s ≡ true → big s ≡ true
  pub choices : (s c : ℕ) → s < states_of m → set s ≡ true → c < length (choices_at m s) → chosen s c ≡ true → more s c ≡ true

-- an end component that is within no other
pub record IsMaximal (m : Mdp) (set : ℕ → Bool) (chosen : ℕ → ℕ → Bool) : Type 0 where
  pub is_end : IsEnd m set chosen
  pub greatest : (big : ℕ → Bool) (more : ℕ → ℕ → Bool) → IsEnd m big more → IsWithin m set chosen big more → IsWithin m big more set chosen

-- ---- the maximal end components of a model, as the number of each state's

abbrev pub part_of : List (Option ℕ) → ℕ → Option ℕ
part_of ends s = slice_index_or ends s None

abbrev pub has_number : ℕ → Option ℕ → Bool
has_number i None = false
has_number i (Some j) = j == i

-- the states of part i
abbrev pub in_part : List (Option ℕ) → ℕ → ℕ → Bool
in_part ends i s = has_number i (part_of ends s)

abbrev pub stays_with : List (Option ℕ) → Option ℕ → List Entry → Bool
stays_with ends None row = false
stays_with ends (Some i) row = stays_in (in_part ends i) row

-- choice c of state s is inside: s is in a part, and all targets are in the same one
abbrev pub is_inside : Mdp → List (Option ℕ) → ℕ → ℕ → Bool
is_inside m ends s c = stays_with ends (part_of ends s) (row_at m s c)

abbrev pub count_of : List (Option ℕ) → ℕ
count_of ends = count_from 0 ends

-- each part with its inner choices is a maximal end component, and each end component lies in a part; parts are numbered by their least states
pub record AreEnds (m : Mdp) (ends : List (Option ℕ)) : Type 0 where
  pub count : length ends ≡ states_of m
  pub maximal : (i : ℕ) → i < count_of ends → IsMaximal m (in_part ends i) (is_inside m ends)
  pub each : (set : ℕ → Bool) (chosen : ℕ → ℕ → Bool) → IsEnd m set chosen → (i : ℕ) × (i < count_of ends) × ((s : ℕ) → s < states_of m → set s ≡ true → in_part ends i s ≡ true)
  pub numbered : is_numbered 0 ends ≡ true

-- The model of one end component alone, computed.
use Rattle.std.proofs.Common.{◌≡◌, ℕ, true, false, List, [], ◌∷◌, Option, Some, refl}
use Rattle.mdp_math.specs.Rational.{ℚ}
use Rattle.mdp_spec.specs.Mdp.{Entry, Choice, Mdp}
use Rattle.mdp_spec.proofs.Small.{entry, half, labelled, number}
use Rattle.mdp_unichain.specs.Part.{members, is_inner}
use Rattle.mdp_gain.specs.Alone.{only_name, place_in, alone}

-- two rewards
abbrev choice : List Entry → ℚ → ℚ → Choice
choice row x y = record { row = row; rewards = x ∷ y ∷ [] }

abbrev one : ℚ
one = number 1

abbrev name_a : List ℕ
name_a = 97 ∷ []

abbrev name_b : List ℕ
name_b = 98 ∷ []

-- ---- states 0 and 2 go to one another, and states 1 and 3 do; state 1 may leave to state 0

abbrev two_pairs : Mdp
two_pairs = record {
  names = name_a ∷ name_b ∷ [];
  labels = name_a ∷ [];
  states = labelled [] (choice (entry 2 one ∷ []) (number 1) (number 2) ∷ [])
      ∷ labelled (0 ∷ []) (choice (entry 1 half ∷ entry 3 half ∷ []) (number 3) (number 4) ∷ choice (entry 0 half ∷ entry 3 half ∷ []) (number 5) (number 6) ∷ [])
      ∷ labelled [] (choice (entry 0 one ∷ []) (number 7) (number 8) ∷ [])
      ∷ labelled (0 ∷ []) (choice (entry 1 one ∷ []) (number 9) (number 10) ∷ [])
      ∷ [];
}

abbrev two_parts : List (Option ℕ)
two_parts = Some 0 ∷ Some 1 ∷ Some 0 ∷ Some 1 ∷ []

members_of_pairs : (members two_pairs two_parts 0 ≡ 0 ∷ 2 ∷ []) × (members two_pairs two_parts 1 ≡ 1 ∷ 3 ∷ [])
members_of_pairs = (refl, refl)

-- the places of states 1 and 3, and past the list's end for any other
places_of_pair : (place_in (1 ∷ 3 ∷ []) 1 ≡ 0) × (place_in (1 ∷ 3 ∷ []) 3 ≡ 1) × (place_in (1 ∷ 3 ∷ []) 0 ≡ 2)
places_of_pair = (refl, refl, refl)

abbrev pair_parts : List (Option ℕ)
pair_parts = Some 0 ∷ Some 0 ∷ Some 1 ∷ []

-- states 1 and 3 are 0 and 1. The choice that leaves goes to state 2, which stays and earns nothing. The reward is that of the second name; no label is kept
pair_alone : alone two_pairs two_parts 1 1 ≡ record {
  names = only_name ∷ [];
  labels = [];
  states = record {
    labels = [];
    choices = record { row = entry 0 half ∷ entry 1 half ∷ []; rewards = number 4 ∷ [] } ∷ record { row = entry 2 one ∷ []; rewards = number 6 ∷ [] } ∷ [];
  }
      ∷ record { labels = []; choices = record { row = entry 0 one ∷ []; rewards = number 10 ∷ [] } ∷ [] }
      ∷ record { labels = []; choices = record { row = entry 2 one ∷ []; rewards = number 0 ∷ [] } ∷ [] }
      ∷ [];
}
pair_alone = refl

-- in the small model the choice that leaves isn't inner
inner_of_pair : (is_inner (alone two_pairs two_parts 1 1) pair_parts 0 0 0 ≡ true) × (is_inner (alone two_pairs two_parts 1 1) pair_parts 0 0 1 ≡ false)
inner_of_pair = (refl, refl)

-- ---- state 0 stays, or goes on to state 1, which stays: a component of one state

abbrev one_way : Mdp
one_way = record {
  names = name_a ∷ name_b ∷ [];
  labels = [];
  states = labelled [] (choice (entry 0 one ∷ []) (number 1) (number 2) ∷ choice (entry 1 one ∷ []) (number 3) (number 4) ∷ [])
      ∷ labelled [] (choice (entry 1 one ∷ []) (number 5) (number 6) ∷ [])
      ∷ [];
}

abbrev way_parts : List (Option ℕ)
way_parts = Some 0 ∷ Some 1 ∷ []

first_alone : alone one_way way_parts 0 0 ≡ record {
  names = only_name ∷ [];
  labels = [];
  states = record {
    labels = [];
    choices = record { row = entry 0 one ∷ []; rewards = number 1 ∷ [] } ∷ record { row = entry 1 one ∷ []; rewards = number 3 ∷ [] } ∷ [];
  }
      ∷ record { labels = []; choices = record { row = entry 1 one ∷ []; rewards = number 0 ∷ [] } ∷ [] }
      ∷ [];
}
first_alone = refl

-- alone state 1 is state 0, and its choice leads to itself
last_alone : alone one_way way_parts 1 0 ≡ record {
  names = only_name ∷ [];
  labels = [];
  states = record { labels = []; choices = record { row = entry 0 one ∷ []; rewards = number 5 ∷ [] } ∷ [] }
      ∷ record { labels = []; choices = record { row = entry 1 one ∷ []; rewards = number 0 ∷ [] } ∷ [] }
      ∷ [];
}
last_alone = refl

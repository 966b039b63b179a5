-- Which states reach one another by chosen choices, and the components that they form.
use Rattle.std.specs.{Prelude.{◌≡◌, ℕ, ◌<◌, ◌↔◌, Bool, true, ◌&&◌, ◌==◌, List, length, map, Some, slice_index}, List.{list_any, range_with_len}}
use Rattle.mdp_spec.specs.Mdp.{Mdp, states_of, choices_at, row_at}
use Rattle.mdp_graph.specs.{Sets.{can_enter}, Layers.{reached}}
use Rattle.mdp_ends.specs.Numbers.{is_numbered}

-- some chosen choice of state s has a successor in the set
abbrev pub chosen_step : Mdp → (ℕ → ℕ → Bool) → (ℕ → Bool) → ℕ → Bool
chosen_step m chosen set s = list_any (λ c. chosen s c && can_enter set (row_at m s c)) (range_with_len 0 (length (choices_at m s)))

-- state s is t, or comes to it by entries of chosen choices: within k steps, and within some number of steps
abbrev pub comes_to : Mdp → (ℕ → ℕ → Bool) → ℕ → ℕ → ℕ → Bool
comes_to m chosen t k s = reached (chosen_step m chosen) (λ x. x == t) k s

abbrev pub Reaches : Mdp → (ℕ → ℕ → Bool) → ℕ → ℕ → Type 0
Reaches m chosen s t = (k : ℕ) × (comes_to m chosen t k s ≡ true)

-- each comes to the other
abbrev pub AreJoined : Mdp → (ℕ → ℕ → Bool) → ℕ → ℕ → Type 0
AreJoined m chosen s t = Reaches m chosen s t × Reaches m chosen t s

-- the number of each state's component, components numbered by their least states
pub record AreComponents (m : Mdp) (allowed : ℕ → ℕ → Bool) (parts : List ℕ) : Type 0 where
  pub count : length parts ≡ states_of m
  pub same : (s t : ℕ) → s < states_of m → t < states_of m → (slice_index parts s ≡ slice_index parts t) ↔ AreJoined m allowed s t
  pub numbered : is_numbered 0 (map Some parts) ≡ true

-- What a policy of the nodes is lifted by.
use Rattle.std.specs.Prelude.{◌≡◌, ℕ, suc, ◌<◌, Bool, true, List, length, Option, Some, slice_index}
use Rattle.mdp_spec.specs.Mdp.{Mdp, states_of, choices_at}
use Rattle.mdp_graph.specs.Sets.{marked}
use Rattle.mdp_ends.specs.{Ends.{part_of, is_inside}, Selection.{exit_at}, Toward.{choice_to}}

-- inner choices at the states of end components
pub record IsInner (m : Mdp) (parts : List (Option ℕ)) (inner : List ℕ) : Type 0 where
  pub count : length inner ≡ states_of m
  pub in_range : (s i : ℕ) → s < states_of m → part_of parts s ≡ Some i → slice_index inner s < length (choices_at m s)
  pub is_inner : (s i : ℕ) → s < states_of m → part_of parts s ≡ Some i → is_inside m parts s (slice_index inner s) ≡ true

-- the states of the exits that the first n nodes take
pub record AreTaken (m : Mdp) (parts : List (Option ℕ)) (nodes outer : List ℕ) (n : ℕ) (states : List Bool) : Type 0 where
  pub count : length states ≡ states_of m
  pub taken : (q k : ℕ) → q < n → slice_index outer q ≡ suc k → marked states (exit_at m parts nodes q k).state ≡ true
  pub from : (s : ℕ) → marked states s ≡ true → (k : ℕ) × (s < states_of m) × (slice_index outer (slice_index nodes s) ≡ suc k) × ((exit_at m parts nodes (slice_index nodes s) k).state ≡ s)

-- at the states of the first n nodes, where the node is an end component that takes an exit, the choice toward the exit's state at each other state
pub record AreWays (m : Mdp) (parts : List (Option ℕ)) (nodes outer : List ℕ) (n : ℕ) (ways : List ℕ) : Type 0 where
  pub count : length ways ≡ states_of m
  pub toward : (s i k : ℕ) → s < states_of m → slice_index nodes s < n → part_of parts s ≡ Some i → slice_index outer (slice_index nodes s) ≡ suc k
      → ((exit_at m parts nodes (slice_index nodes s) k).state ≡ s → ⊥) → slice_index ways s ≡ choice_to m parts (exit_at m parts nodes (slice_index nodes s) k).state s

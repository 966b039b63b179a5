-- The numbers of nodes, state by state.
use Rattle.std.specs.Prelude.{◌≡◌, ℕ, ◌<◌, ◌≤◌, true, List, length, map, Option, Some, None, slice_index, slice_index_or}
use Rattle.mdp_ends.specs.{Numbers.{is_numbered}, Ends.{part_of, count_of}, Quotient.{nodes_in}}

-- the first n states have their nodes: each node's end component is known, and for each end component the node that it was given, if one of its states was seen
pub record IsNumbering (parts : List (Option ℕ)) (n : ℕ) (nodes : List ℕ) (components first : List (Option ℕ)) : Type 0 where
  pub count : length nodes ≡ n
  pub numbered : is_numbered 0 (map Some nodes) ≡ true
  pub next : nodes_in nodes ≡ length components
  pub few : length components ≤ n
  pub room : length first ≡ count_of parts
  pub part : (s : ℕ) → s < n → slice_index_or components (slice_index nodes s) None ≡ part_of parts s
  pub given : (i q : ℕ) → slice_index_or first i None ≡ Some q → (s : ℕ) × (s < n) × (part_of parts s ≡ Some i) × (slice_index nodes s ≡ q)
  pub fresh : (i s : ℕ) → slice_index_or first i None ≡ None → s < n → part_of parts s ≡ Some i → ⊥
  pub single : (s t : ℕ) → s < n → t < n → part_of parts s ≡ None → slice_index nodes s ≡ slice_index nodes t → s ≡ t
  pub joined : (s t i : ℕ) → s < n → t < n → part_of parts s ≡ Some i → part_of parts t ≡ Some i → slice_index nodes s ≡ slice_index nodes t

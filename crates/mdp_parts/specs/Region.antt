-- Sets of states that are gathered along allowed choices.
use Rattle.std.specs.Prelude.{◌≡◌, ℕ, ◌<◌, ◌≤◌, Bool, true, ◌&&◌, ◌==◌, nat_lt, List, length, slice_index}
use Rattle.mdp_spec.specs.Mdp.{Mdp, states_of, choices_at, row_at}
use Rattle.mdp_graph.specs.Sets.{stays_in}
use Rattle.mdp_parts.specs.Allowed.{allowed_at}

-- a state is in the set where it stands in the list at its place
abbrev pub is_in : List ℕ → List ℕ → ℕ → Bool
is_in places list s = nat_lt (slice_index places s) (length list) && (slice_index list (slice_index places s) == s)

-- a list of states below n, each of which stands at its place
pub record IsRegion (n : ℕ) (places list : List ℕ) : Type 0 where
  pub count : length places ≡ n
  pub below : (k : ℕ) → k < length list → slice_index list k < n
  pub placed : (k : ℕ) → k < length list → slice_index places (slice_index list k) ≡ k

-- states were added at the end
pub record IsGrown (places list new_places new_list : List ℕ) : Type 0 where
  pub longer : length list ≤ length new_list
  pub before : (k : ℕ) → k < length list → slice_index new_list k ≡ slice_index list k
  pub kept : (s : ℕ) → is_in places list s ≡ true → is_in new_places new_list s ≡ true

-- the allowed choices of state s lead into the set alone
abbrev pub IsClosedAt : Mdp → List (List Bool) → (ℕ → Bool) → ℕ → Type 0
IsClosedAt m allowed set s = (c : ℕ) → c < length (choices_at m s) → allowed_at allowed s c ≡ true → stays_in set (row_at m s c) ≡ true

-- no allowed choice leaves the set
abbrev pub IsClosed : Mdp → List (List Bool) → (ℕ → Bool) → Type 0
IsClosed m allowed set = (s : ℕ) → s < states_of m → set s ≡ true → IsClosedAt m allowed set s

-- Choices that lead to smaller ranks.
use Rattle.std.specs.Prelude.{◌≡◌, ℕ, ◌<◌, ◌≤◌, ◌⊎◌, Bool, true, false, ◌&&◌, nat_lt, List, length, map, Option, Some, None, slice_index}
use Rattle.std.specs.{List.{find, range_with_len}, Option.{unwrap_or}}
use Rattle.mdp_spec.specs.Mdp.{Mdp, states_of, choices_at, row_at}
use Rattle.mdp_graph.specs.{Sets.{marked, can_enter, stays_in}, Layers.{rank_at}}

-- 0 where there is no rank
abbrev pub plain_rank : Option ℕ → ℕ
plain_rank rank = unwrap_or rank 0

-- a rank below r
abbrev pub is_before : ℕ → Option ℕ → Bool
is_before r None = false
is_before r (Some q) = nat_lt q r

-- choice c stays inside and has a successor of a rank below that of s
abbrev pub may_fall : Mdp → List Bool → List (Option ℕ) → ℕ → ℕ → Bool
may_fall m inside ranks s c = stays_in (marked inside) (row_at m s c) && can_enter (λ t. is_before (plain_rank (rank_at ranks s)) (rank_at ranks t)) (row_at m s c)

-- the first number below n that passes the test; 0 where none does
abbrev pub first_below : (ℕ → Bool) → ℕ → ℕ
first_below test n = unwrap_or (find test (range_with_len 0 n)) 0

-- for each state the first of its choices that passes the test
abbrev pub first_passing : Mdp → (ℕ → ℕ → Bool) → List ℕ
first_passing m test = map (λ s. first_below (test s) (length (choices_at m s))) (range_with_len 0 (states_of m))

-- the choices of a pass: at each marked state that is no target the least that passes the test, 0 elsewhere
pub record AreLeast (m : Mdp) (targets marks : List Bool) (test : ℕ → ℕ → Bool) (choices : List ℕ) : Type 0 where
  pub count : length choices ≡ states_of m
  pub in_range : (s : ℕ) → s < states_of m → slice_index choices s < length (choices_at m s)
  pub passes : (s : ℕ) → s < states_of m → marked marks s ≡ true → marked targets s ≡ false → test s (slice_index choices s) ≡ true
  pub least : (s c : ℕ) → s < states_of m → test s c ≡ true → c < length (choices_at m s) → slice_index choices s ≤ c
  pub zero : (s : ℕ) → s < states_of m → (marked marks s ≡ false) ⊎ (marked targets s ≡ true) → slice_index choices s ≡ 0

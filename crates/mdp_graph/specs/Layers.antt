-- Ranks: a state has rank 0 where it is in the first set, and else one more than the number of steps after which it is first reached.
use Rattle.std.specs.Prelude.{◌≡◌, ℕ, zero, suc, ◌<◌, ◌≤◌, Bool, true, false, ◌||◌, nat_le, List, length, Option, Some, None, ◌↔◌, slice_index, slice_index_or}
use Rattle.mdp_graph.specs.Sets.{marked}

-- the states of rank at most k: those of rank at most k - 1, and the ones from which one step leads to these
unfoldable pub reached : ((ℕ → Bool) → ℕ → Bool) → (ℕ → Bool) → ℕ → ℕ → Bool
reached step first zero s = first s
reached step first (suc k) s = reached step first k s || step (reached step first k) s

-- the rank of a state, none where it isn't reached; whether it is at most k
abbrev pub rank_at : List (Option ℕ) → ℕ → Option ℕ
rank_at ranks s = slice_index_or ranks s None

abbrev pub at_most : ℕ → Option ℕ → Bool
at_most k None = false
at_most k (Some r) = nat_le r k

-- the ranks of the first n states
pub record AreRanks (step : (ℕ → Bool) → ℕ → Bool) (first : ℕ → Bool) (n : ℕ) (ranks : List (Option ℕ)) : Type 0 where
  pub count : length ranks ≡ n
  pub least : (k s : ℕ) → s < n → at_most k (rank_at ranks s) ≡ reached step first k s

-- the marks of the states that are reached
pub record AreReached (step : (ℕ → Bool) → ℕ → Bool) (first : ℕ → Bool) (n : ℕ) (marks : List Bool) : Type 0 where
  pub count : length marks ≡ n
  pub marks_reached : (s : ℕ) → s < n → (marked marks s ≡ true) ↔ ((k : ℕ) × (reached step first k s ≡ true))

-- the least ranks: each marked state is reached with its rank and with no smaller one; 0 at the others
pub record AreLeastRanks (step : (ℕ → Bool) → ℕ → Bool) (first : ℕ → Bool) (n : ℕ) (marks : List Bool) (ranks : List ℕ) : Type 0 where
  pub count : length ranks ≡ n
  pub reaches : (s : ℕ) → s < n → marked marks s ≡ true → reached step first (slice_index ranks s) s ≡ true
  pub least : (s k : ℕ) → s < n → reached step first k s ≡ true → slice_index ranks s ≤ k
  pub zero : (s : ℕ) → s < n → marked marks s ≡ false → slice_index ranks s ≡ 0

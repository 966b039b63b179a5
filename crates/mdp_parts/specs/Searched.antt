-- What a search in depth knows, and the order that it finds.
use Rattle.std.specs.{Prelude.{◌≡◌, ℕ, ◌<◌, ◌≤◌, ◌⊎◌, ◌+◌, ◌*◌, Bool, true, false, not, List, [], length, slice_index, slice_index_or}, List.{count_by}}
use Rattle.mdp_spec.specs.{Mdp.{Mdp}, Row.{IsMdp}}
use Rattle.mdp_graph.specs.Sets.{marked}
use Rattle.mdp_ends.specs.DepthFirst.{StandsIn, IsSearching}
use Rattle.mdp_parts.specs.Targets.{AreTargets}

-- target k of state s
abbrev pub target_at : List (List ℕ) → ℕ → ℕ → ℕ
target_at edges s k = slice_index (slice_index_or edges s []) k

-- the targets from one place on and before another were met
abbrev pub AreMet : List Bool → List ℕ → ℕ → ℕ → Type 0
AreMet met targets from end = (k : ℕ) → k < end → from ≤ k → marked met (slice_index targets k) ≡ true

-- place i is the first from a place on whose target wasn't met
abbrev pub IsFirstUnmet : List Bool → List ℕ → ℕ → ℕ → Type 0
IsFirstUnmet met targets from i = (i < length targets) × (marked met (slice_index targets i) ≡ false) × AreMet met targets from i

-- what was met is done with or on the way, and of each state so many targets were met
pub record IsSearch (edges : List (List ℕ)) (way next : List ℕ) (met : List Bool) (done : List ℕ) : Type 0 where
  pub count_next : length next ≡ length edges
  pub count_met : length met ≡ length edges
  pub way_below : (k : ℕ) → k < length way → slice_index way k < length edges
  pub done_below : (k : ℕ) → k < length done → slice_index done k < length edges
  pub way_met : (k : ℕ) → k < length way → marked met (slice_index way k) ≡ true
  pub done_met : (k : ℕ) → k < length done → marked met (slice_index done k) ≡ true
  pub stands : (s : ℕ) → s < length edges → marked met s ≡ true → StandsIn s done ⊎ StandsIn s way
  pub within : (s : ℕ) → s < length edges → slice_index next s ≤ length (slice_index_or edges s [])
  pub looked : (s k : ℕ) → s < length edges → k < slice_index next s → marked met (target_at edges s k) ≡ true
  pub searching : (m : Mdp) (chosen : ℕ → ℕ → Bool) → IsMdp m → AreTargets m chosen edges → IsSearching m chosen way done

-- how much is left to do: a state that wasn't met is to be met and done with, and one on the way is to be done with
abbrev pub work_left : List ℕ → List Bool → ℕ
work_left way met = 2 * count_by not met + length way

-- all states, in the order in which the search is done with them
pub record IsOrder (edges : List (List ℕ)) (order : List ℕ) : Type 0 where
  pub below : (k : ℕ) → k < length order → slice_index order k < length edges
  pub all : (s : ℕ) → s < length edges → StandsIn s order
  pub searched : (m : Mdp) (chosen : ℕ → ℕ → Bool) → IsMdp m → AreTargets m chosen edges → IsSearching m chosen [] order

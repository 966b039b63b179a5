-- What a search in depth keeps: the states on its way, from the first to the last, and those that it is done with, in that order (Sharir 1981).
use Rattle.std.specs.Prelude.{◌≡◌, ℕ, ◌<◌, ◌≤◌, ◌⊎◌, Bool, true, List, length, slice_index}
use Rattle.mdp_spec.specs.Mdp.{Mdp, states_of, choices_at, row_at}
use Rattle.mdp_rows.specs.Preds.{leads_to}
use Rattle.mdp_ends.specs.Walks.{Reaches, AreJoined}

-- s stands in a list
abbrev pub StandsIn : ℕ → List ℕ → Type 0
StandsIn s xs = (k : ℕ) × (k < length xs) × (slice_index xs k ≡ s)

pub record IsSearching (m : Mdp) (chosen : ℕ → ℕ → Bool) (way done : List ℕ) : Type 0 where
  pub way_below : (k : ℕ) → k < length way → slice_index way k < states_of m
  pub done_below : (k : ℕ) → k < length done → slice_index done k < states_of m
  -- the way is a walk
  pub goes : (j k : ℕ) → j ≤ k → k < length way → Reaches m chosen (slice_index way j) (slice_index way k)
  -- what a state leads to that is done with has been met
  pub met : (f c t : ℕ) → f < length done → c < length (choices_at m (slice_index done f)) → chosen (slice_index done f) c ≡ true
      → leads_to t (row_at m (slice_index done f) c) ≡ true → StandsIn t done ⊎ StandsIn t way
  -- one that reaches a state of the way is joined with one that is no later on it
  pub held : (f k : ℕ) → f < length done → k < length way → Reaches m chosen (slice_index done f) (slice_index way k) → (j : ℕ) × (j ≤ k) × AreJoined m chosen (slice_index done f) (slice_index way j)
  -- one that reaches another is reached from it, or is joined with one that is done with later, or with one on the way
  pub later : (f g : ℕ) → f < length done → g < length done → Reaches m chosen (slice_index done f) (slice_index done g)
      → Reaches m chosen (slice_index done g) (slice_index done f) ⊎ ((h : ℕ) × (g < h) × (h < length done) × AreJoined m chosen (slice_index done f) (slice_index done h)) ⊎
      ((k : ℕ) × (k < length way) × AreJoined m chosen (slice_index done f) (slice_index way k))

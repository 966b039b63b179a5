-- Ranks by the edges of a graph.
use Rattle.std.specs.{Prelude.{◌≡◌, ℕ, ◌+◌, ◌<◌, ◌⊎◌, Bool, true, List, length, Option, Some, None, cond, ◌||◌, ◌&&◌, is_none}, List.{count_by}}
use Rattle.mdp_spec.specs.Mdp.{Mdp, states_of}
use Rattle.mdp_rows.specs.Preds.{is_among}
use Rattle.mdp_graph.specs.{Sets.{marked}, Edges.{has_edge, leads}, Layers.{rank_at, at_most}}

-- each state of the first set has rank 0; any other has an edge to one of the rank before; an edge raises the rank by 1 at most
pub record AreRankedBy (edges : List (List ℕ)) (first : ℕ → Bool) (n : ℕ) (ranks : List (Option ℕ)) : Type 0 where
  pub count : length ranks ≡ n
  pub first_ranked : (s : ℕ) → s < n → first s ≡ true → rank_at ranks s ≡ Some 0
  pub from : (s r : ℕ) → s < n → rank_at ranks s ≡ Some r → ((r ≡ 0) × (first s ≡ true)) ⊎
      ((t : ℕ) × (q : ℕ) × (t < n) × (has_edge edges s t ≡ true) × (rank_at ranks t ≡ Some q) × (r ≡ q + 1))
  pub raised : (s t k : ℕ) → s < n → t < n → has_edge edges s t ≡ true → at_most k (rank_at ranks t) ≡ true → at_most (k + 1) (rank_at ranks s) ≡ true

-- a rank is given to the states that have none yet
abbrev pub given : ℕ → Bool → Option ℕ → Option ℕ
given rank is_new (Some r) = Some r
given rank is_new None = cond is_new (Some rank) None

abbrev pub unranked : List (Option ℕ) → ℕ
unranked ranks = count_by is_none ranks

-- what stands after the rank was given to these states: the states that took it were added to the list
pub record IsGiven (old : List (Option ℕ)) (old_list : List ℕ) (new : List (Option ℕ)) (new_list : List ℕ) (states : List ℕ) (rank : ℕ) : Type 0 where
  pub count : length new ≡ length old
  pub at : (s : ℕ) → s < length old → rank_at new s ≡ given rank (is_among s states) (rank_at old s)
  pub listed : (s : ℕ) → s < length old → is_among s new_list ≡ (is_among s old_list || (is_none (rank_at old s) && is_among s states))
  pub below : (s : ℕ) → is_among s new_list ≡ true → (is_among s old_list ≡ true) ⊎ (s < length old)
  pub left : unranked new + length new_list ≡ unranked old + length old_list

-- the ranks along the edges of a model, by choices that stay inside and no choice of a blocked state
pub record AreRanksAlong (m : Mdp) (inside blocked target : List Bool) (ranks : List (Option ℕ)) : Type 0 where
  pub edges : List (List ℕ)
  pub leading : (s t : ℕ) → s < states_of m → t < states_of m → has_edge edges s t ≡ leads m inside blocked s t
  pub by_edges : AreRankedBy edges (marked target) (states_of m) ranks

-- The states that each state leads to by chosen choices, as lists, and the same edges the other way round.
use Rattle.std.specs.Prelude.{◌≡◌, ℕ, ◌<◌, ◌==◌, Bool, List, [], ◌++◌, length, slice_index_or}
use Rattle.mdp_spec.specs.Mdp.{Mdp, states_of}
use Rattle.mdp_rows.specs.Preds.{is_among}
use Rattle.mdp_graph.specs.Edges.{AreEdges, has_edge}
use Rattle.mdp_ends.specs.Walks.{chosen_step}

-- the states that state s leads to were appended to a list
pub record HasTargets (m : Mdp) (chosen : ℕ → ℕ → Bool) (s : ℕ) (old new : List ℕ) : Type 0 where
  pub list : List ℕ
  pub longer : new ≡ old ++ list
  pub leads : (t : ℕ) → is_among t list ≡ chosen_step m chosen (λ x. x == t) s

-- each state's list holds the states that it leads to
pub record AreTargets (m : Mdp) (chosen : ℕ → ℕ → Bool) (edges : List (List ℕ)) : Type 0 where
  pub count : length edges ≡ states_of m
  pub leads : (s t : ℕ) → s < states_of m → is_among t (slice_index_or edges s []) ≡ chosen_step m chosen (λ x. x == t) s

-- each state's list holds the states whose lists hold it
pub record AreReversed (edges back : List (List ℕ)) : Type 0 where
  pub edges_back : AreEdges (length edges) back
  pub same : (s t : ℕ) → s < length edges → t < length edges → has_edge back s t ≡ is_among t (slice_index_or edges s [])

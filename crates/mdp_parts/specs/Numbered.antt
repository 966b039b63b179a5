-- Numbers that tell groups of states apart.
use Rattle.std.specs.Prelude.{◌≡◌, ℕ, ◌<◌, ◌↔◌, Bool, true, ◌==◌, List, [], length, Option, Some, None}
use Rattle.mdp_spec.specs.{Mdp.{Mdp, states_of}, Row.{IsMdp}}
use Rattle.mdp_graph.specs.{Edges.{has_edge}, Layers.{rank_at}, Ranking.{unranked}}
use Rattle.mdp_ends.specs.{Walks.{chosen_step, AreJoined}, Numbers.{is_numbered}, DepthFirst.{IsSearching}}

-- the states that take a number: a root and, of those without a number, the ones that lead to one of them
pub record IsTaken (back : List (List ℕ)) (root number : ℕ) (old new : List (Option ℕ)) : Type 0 where
  pub count : length new ≡ length old
  pub kept : (s i : ℕ) → s < length old → rank_at old s ≡ Some i → rank_at new s ≡ Some i
  pub fresh : (s i : ℕ) → s < length old → rank_at old s ≡ None → rank_at new s ≡ Some i → i ≡ number
  pub root_taken : rank_at new root ≡ Some number
  pub closed : (s t : ℕ) → s < length old → t < length old → has_edge back s t ≡ true → rank_at old t ≡ None → rank_at new t ≡ Some number → rank_at new s ≡ None → ⊥
  -- they lie in each set that holds the root and with a state those that lead to it
  pub least : (set : ℕ → Bool) → set root ≡ true → ((s t : ℕ) → s < length old → t < length old → has_edge back s t ≡ true → set t ≡ true → set s ≡ true)
      → (s : ℕ) → s < length old → rank_at old s ≡ None → rank_at new s ≡ Some number → set s ≡ true
  pub fewer : unranked new < unranked old

-- each state's list holds the states that lead to it by chosen choices
pub record AreSources (m : Mdp) (chosen : ℕ → ℕ → Bool) (back : List (List ℕ)) : Type 0 where
  pub count : length back ≡ states_of m
  pub leads : (s t : ℕ) → s < states_of m → t < states_of m → has_edge back s t ≡ chosen_step m chosen (λ x. x == t) s

-- each state has a number, and two have the same where each reaches the other
pub record AreClasses (m : Mdp) (chosen : ℕ → ℕ → Bool) (numbers : List (Option ℕ)) : Type 0 where
  pub same : (s t i : ℕ) → s < states_of m → t < states_of m → rank_at numbers s ≡ Some i → rank_at numbers t ≡ Some i → AreJoined m chosen s t
  pub joined : (s t i : ℕ) → s < states_of m → t < states_of m → AreJoined m chosen s t → rank_at numbers t ≡ Some i → rank_at numbers s ≡ Some i

-- numbers for n states, found backwards from the end of an order of a search in depth
pub record AreGrouped (back : List (List ℕ)) (order : List ℕ) (n : ℕ) (numbers : List (Option ℕ)) : Type 0 where
  pub count : length numbers ≡ n
  pub each : (s : ℕ) → s < n → (i : ℕ) × (rank_at numbers s ≡ Some i) × (i < n)
  pub classes : (m : Mdp) (chosen : ℕ → ℕ → Bool) → IsMdp m → AreSources m chosen back → IsSearching m chosen [] order → AreClasses m chosen numbers

-- new numbers in the order of the least states: two states have the same where their keys are the same, and none where they have no key
pub record IsRenumbered (keys new : List (Option ℕ)) : Type 0 where
  pub count : length new ≡ length keys
  pub none : (s : ℕ) → s < length keys → rank_at keys s ≡ None → rank_at new s ≡ None
  pub some : (s k : ℕ) → s < length keys → rank_at keys s ≡ Some k → (i : ℕ) × (rank_at new s ≡ Some i)
  pub same : (s t k l i j : ℕ) → s < length keys → t < length keys → rank_at keys s ≡ Some k → rank_at keys t ≡ Some l → rank_at new s ≡ Some i → rank_at new t ≡ Some j → (i ≡ j) ↔ (k ≡ l)
  pub in_order : is_numbered 0 new ≡ true

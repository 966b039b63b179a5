-- The states from which some policy never meets a goal.
use Rattle.std.specs.Prelude.{◌≡◌, ℕ, ◌<◌, Bool, true, false, ◌&&◌, List, length}
use Rattle.mdp_spec.specs.Mdp.{Mdp, states_of, row_at}
use Rattle.mdp_graph.specs.Sets.{marked, stays_in, some_choice}

-- a set of states that aren't goals in which each has a choice whose successors all are in the set
pub record IsAvoiding (m : Mdp) (goals : List Bool) (set : ℕ → Bool) : Type 0 where
  pub outside : (s : ℕ) → s < states_of m → set s ≡ true → marked goals s ≡ false
  pub stays : (s : ℕ) → s < states_of m → set s ≡ true → some_choice (stays_in set) m s ≡ true

-- the marked states are the greatest such set
pub record IsGreatestAvoiding (m : Mdp) (goals marks : List Bool) : Type 0 where
  pub count : length marks ≡ states_of m
  pub avoiding : IsAvoiding m goals (marked marks)
  pub greatest : (set : ℕ → Bool) → IsAvoiding m goals set → (s : ℕ) → s < states_of m → set s ≡ true → marked marks s ≡ true

-- choice c of a marked state keeps all successors marked
abbrev pub keeps : Mdp → List Bool → ℕ → ℕ → Bool
keeps m marks s c = marked marks s && stays_in (marked marks) (row_at m s c)

-- The states from which some policy reaches a goal with certainty (de Alfaro 1997; Baier and Katoen 2008, section 10.6).
use Rattle.std.specs.Prelude.{◌≡◌, ℕ, ◌<◌, Bool, true, ◌&&◌, List, length}
use Rattle.mdp_spec.specs.Mdp.{Mdp, states_of, row_at}
use Rattle.mdp_graph.specs.{Sets.{marked, can_enter, stays_in, some_choice}, Layers.{reached}, Reach.{falls}}

-- a state with a choice all of whose successors are inside and one of whose successors is in the set
abbrev pub inside_step : Mdp → (ℕ → Bool) → (ℕ → Bool) → ℕ → Bool
inside_step m inside set s = some_choice (λ row. stays_in inside row && can_enter set row) m s

-- a set that holds the goals and from each state of which a goal can be reached by choices that stay in the set
pub record IsSure (m : Mdp) (goals : List Bool) (set : ℕ → Bool) : Type 0 where
  pub goals_in : (s : ℕ) → s < states_of m → marked goals s ≡ true → set s ≡ true
  pub reaches : (s : ℕ) → s < states_of m → set s ≡ true → (k : ℕ) × (reached (inside_step m set) (marked goals) k s ≡ true)

-- the marked states are the greatest such set
pub record IsGreatestSure (m : Mdp) (goals marks : List Bool) : Type 0 where
  pub count : length marks ≡ states_of m
  pub sure : IsSure m goals (marked marks)
  pub greatest : (set : ℕ → Bool) → IsSure m goals set → (s : ℕ) → s < states_of m → set s ≡ true → marked marks s ≡ true

-- choice c keeps all successors marked and has one of smaller rank
abbrev pub stays_and_falls : Mdp → List Bool → List ℕ → ℕ → ℕ → Bool
stays_and_falls m marks ranks s c = stays_in (marked marks) (row_at m s c) && falls m marks ranks s c

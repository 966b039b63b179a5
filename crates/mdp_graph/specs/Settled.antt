-- The ranks after the last round of `sure_some`.
use Rattle.std.specs.Prelude.{◌≡◌, ℕ, ◌<◌, Bool, true, List, map, Option, is_some}
use Rattle.mdp_spec.specs.Mdp.{Mdp, states_of}
use Rattle.mdp_graph.specs.{Sets.{marked}, Layers.{rank_at, AreRanks}, Sure.{inside_step, IsSure}}

-- the states with a rank are those that reach a goal among themselves, and each sure set is among them
pub record IsSettled (m : Mdp) (goals : List Bool) (ranks : List (Option ℕ)) : Type 0 where
  pub ranked : AreRanks (inside_step m (marked (map is_some ranks))) (marked goals) (states_of m) ranks
  pub greatest : (set : ℕ → Bool) → IsSure m goals set → (s : ℕ) → s < states_of m → set s ≡ true → is_some (rank_at ranks s) ≡ true

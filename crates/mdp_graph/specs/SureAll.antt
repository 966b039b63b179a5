-- The states from which every policy reaches a goal with certainty.
use Rattle.std.specs.Prelude.{◌≡◌, ℕ, ◌<◌, ◌↔◌, Bool, true, false, List, length, Option, is_some, map}
use Rattle.mdp_spec.specs.Mdp.{Mdp, states_of}
use Rattle.mdp_graph.specs.{Sets.{marked}, Layers.{reached, AreLeastRanks}, Choices.{plain_rank}, Reach.{may_step}, Meet.{must_step}}
use Rattle.mdp_graph.specs.Avoid.{IsGreatestAvoiding}

-- the marked states are those that reach none of the avoiding states without passing a goal
pub record AreSure (m : Mdp) (goals avoiding marks : List Bool) : Type 0 where
  pub count : length marks ≡ states_of m
  pub never : (s : ℕ) → s < states_of m → (marked marks s ≡ true) ↔ ((k : ℕ) → reached (may_step m goals) (marked avoiding) k s ≡ false)

-- they are, for the greatest avoiding set
abbrev pub IsSureAll : Mdp → List Bool → List Bool → Type 0
IsSureAll m goals marks = (avoiding : List Bool) × IsGreatestAvoiding m goals avoiding × AreSure m goals avoiding marks

-- the ranks of these states, none at the others
pub record AreSureRanks (m : Mdp) (goals : List Bool) (ranks : List (Option ℕ)) : Type 0 where
  pub count : length ranks ≡ states_of m
  pub sure : IsSureAll m goals (map is_some ranks)
  pub least : AreLeastRanks (must_step m) (marked goals) (states_of m) (map is_some ranks) (map plain_rank ranks)

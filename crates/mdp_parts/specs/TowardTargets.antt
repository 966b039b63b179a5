-- Ranks and choices toward targets by inner choices, in all end components at once.
use Rattle.std.specs.Prelude.{◌≡◌, ℕ, ◌<◌, ◌⊎◌, Bool, true, List, Option}
use Rattle.mdp_spec.specs.Mdp.{Mdp, states_of}
use Rattle.mdp_graph.specs.{Sets.{marked}, Layers.{AreReached, AreLeastRanks}, Choices.{AreLeast}}
use Rattle.mdp_ends.specs.{Quotient.{ShareAPart}, Toward.{inner_step, inner_falls}}

-- what is reached by inner choices, the least ranks, and the least choices that fall
pub record IsTowardTargets (m : Mdp) (ends : List (Option ℕ)) (target marks : List Bool) (ranks choices : List ℕ) : Type 0 where
  pub reaches : AreReached (inner_step m ends) (marked target) (states_of m) marks
  pub ranked : AreLeastRanks (inner_step m ends) (marked target) (states_of m) marks ranks
  pub chosen : AreLeast m target marks (inner_falls m ends marks ranks) choices

-- state s is a target, or one is in its end component
abbrev pub HasTarget : Mdp → List (Option ℕ) → List Bool → ℕ → Type 0
HasTarget m ends target s = (marked target s ≡ true) ⊎ ((t : ℕ) × (t < states_of m) × ShareAPart ends s t × (marked target t ≡ true))

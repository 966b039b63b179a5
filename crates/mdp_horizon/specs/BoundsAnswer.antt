-- Bounds of the code, as contracts see them.
use Rattle.std.specs.Prelude.{ℕ}
use Rattle.mdp_spec.specs.Mdp.{Mdp, states_of}
use Rattle.mdp_horizon.specs.{Objective.{Objective}, Between.{MaxBetween, MinBetween}, Finite.{AreProbabilities}}
use Rattle.mdp_horizon.specs.{Answer.{lists}, Columns.{Bounds}, declared.bounds.HorizonBounds.{HorizonBounds}}

abbrev pub plain : HorizonBounds → Bounds
plain b = record { lower = b.lower.items; upper = b.upper.items; steps = lists b.steps.items }

-- the greatest, the least values lie between them
abbrev pub AreMaxBounds : Mdp → Objective → ℕ → Bounds → Type 0
AreMaxBounds m o n b = MaxBetween m o n b.lower b.upper b.steps

abbrev pub AreMinBounds : Mdp → Objective → ℕ → Bounds → Type 0
AreMinBounds m o n b = MinBetween m o n b.lower b.upper b.steps

-- all of them are there, from 0 to 1
abbrev pub AreFinite : Mdp → Bounds → Type 0
AreFinite m b = AreProbabilities (states_of m) b.lower × AreProbabilities (states_of m) b.upper

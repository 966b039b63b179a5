-- What is shown of the text that answers `bounds` of a bounded until, or of a total reward.
use Rattle.std.specs.Prelude.{◌≡◌, ℕ, ◌*◌, ◌≤◌, ◌^◌, List, Bool, Option, Some, Ok, pos}
use Rattle.mdp_spec.specs.{Labels.{place_of}, Mdp.{Mdp, states_of}}
use Rattle.mdp_rows.specs.{declared.dir.Dir.{Dir}, declared.dir.Dir.TheVariants.{Max, Min}}
use Rattle.mdp_horizon.specs.{Between.{MaxBetween, MinBetween}, Objective.{Objective}, Objective.Objective.{until as until_objective, total as total_objective}}
use Rattle.mdp_horizon.specs.{Columns.{Bounds}, Gap.{NoneIsWide, AreNearBounds}, Finer.{unit_of}, Finite.{AreProbabilities}}
use Rattle.mdp_horizon.specs.{BoundsSpelling.{PlainClaim, bounds_text}, BoundsSpelling.PlainClaim.{until as until_claim, total as total_claim}}
use Rattle.mdp_command_horizon.specs.Due.{states_with, states_that_stay, stay_word}

-- the greatest, or the least, values within so many steps lie between the lower and the upper ones, and what the table comes to does
abbrev pub AreBetween : Dir → Mdp → Objective → ℕ → Bounds → Type 0
AreBetween Max m o steps b = MaxBetween m o steps b.lower b.upper b.steps
AreBetween Min m o steps b = MinBetween m o steps b.lower b.upper b.steps

-- the text of such bounds. Where no row is wide and the unit is as fine as the steps cost, lower and upper values are at most 10^-digits apart
pub record AreBoundsPrinted (dir : Dir) (asked : PlainClaim) (o : Objective) (steps digits : ℕ) (m : Mdp) (text : List ℕ) : Type 0 where
  pub bounds : Bounds
  pub spelled : text ≡ bounds_text dir asked m bounds
  pub between : AreBetween dir m o steps bounds
  pub near : NoneIsWide dir (pos (unit_of m o digits steps)) m o steps → steps * 10 ^ digits ≤ unit_of m o digits steps
      → AreNearBounds (10 ^ digits) m bounds

-- by way of the states that stay to the states with the label: each value is there, from 0 to 1
pub record AreUntilBoundsPrinted (dir : Dir) (stay : Option (List ℕ)) (label : List ℕ) (steps digits : ℕ) (m : Mdp) (text : List ℕ) : Type 0 where
  pub stays : List Bool
  pub stays_are : states_that_stay m stay ≡ Ok stays
  pub goals : List Bool
  pub goals_are : states_with m label ≡ Ok goals
  pub printed : AreBoundsPrinted dir (until_claim (stay_word stay) label) (until_objective stays goals) steps digits m text
  pub finite : AreProbabilities (states_of m) printed.bounds.lower × AreProbabilities (states_of m) printed.bounds.upper

-- the same for the reward name
pub record AreTotalBoundsPrinted (dir : Dir) (name : List ℕ) (steps digits : ℕ) (m : Mdp) (text : List ℕ) : Type 0 where
  pub place : ℕ
  pub place_is : place_of name m.names ≡ Some place
  pub printed : AreBoundsPrinted dir (total_claim name) (total_objective place) steps digits m text

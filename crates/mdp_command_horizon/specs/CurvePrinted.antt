-- What is shown of the text that answers `curve` of a bounded until, or of a total reward.
use Rattle.std.specs.Prelude.{◌≡◌, ℕ, ◌+◌, ◌*◌, ◌≤◌, ◌^◌, List, Bool, length, Option, Some, Ok, pos}
use Rattle.mdp_spec.specs.{Labels.{place_of, initial_of}, Mdp.{Mdp}}
use Rattle.mdp_rows.specs.{declared.dir.Dir.{Dir}, declared.dir.Dir.TheVariants.{Max, Min}}
use Rattle.mdp_horizon.specs.{declared.point.Point.{Point}, Objective.{Objective}, Objective.Objective.{until as until_objective, total as total_objective}}
use Rattle.mdp_horizon.specs.{Gap.{NoneIsWide}, Finer.{unit_of}, Curve.{IsMaxCurve, IsMinCurve, IsFiniteCurve, IsNearCurve, IsCurveOfBounds}}
use Rattle.mdp_horizon.specs.{CurveSpelling.{curve_text}, BoundsSpelling.{PlainClaim}, BoundsSpelling.PlainClaim.{until as until_claim, total as total_claim}}
use Rattle.mdp_command_horizon.specs.Due.{states_with, states_that_stay, stay_word}

-- the greatest, or the least, value at a state within each number of steps lies between the lower and the upper one
abbrev pub IsCurveBetween : Dir → Mdp → Objective → ℕ → ℕ → List Point → Type 0
IsCurveBetween Max m o s steps curve = IsMaxCurve m o s steps curve
IsCurveBetween Min m o s steps curve = IsMinCurve m o s steps curve

-- the text of such values at the one initial state, with each number of steps from 0 on. They are those of bounds within so many steps, in units
-- that are finer; and where no row is wide, at most 10^-digits apart
pub record IsCurvePrinted (dir : Dir) (asked : PlainClaim) (o : Objective) (steps digits : ℕ) (m : Mdp) (text : List ℕ) : Type 0 where
  pub start : ℕ
  pub start_is : initial_of m ≡ Some start
  pub curve : List Point
  pub spelled : text ≡ curve_text dir asked start curve
  pub one_each : length curve ≡ steps + 1
  pub between : IsCurveBetween dir m o start steps curve
  pub bounds : IsCurveOfBounds dir (pos (unit_of m o digits steps)) m o start steps curve
  pub near : NoneIsWide dir (pos (unit_of m o digits steps)) m o steps → steps * 10 ^ digits ≤ unit_of m o digits steps → IsNearCurve (10 ^ digits) steps curve

-- by way of the states that stay to the states with the label: each value is there
pub record IsUntilCurvePrinted (dir : Dir) (stay : Option (List ℕ)) (label : List ℕ) (steps digits : ℕ) (m : Mdp) (text : List ℕ) : Type 0 where
  pub stays : List Bool
  pub stays_are : states_that_stay m stay ≡ Ok stays
  pub goals : List Bool
  pub goals_are : states_with m label ≡ Ok goals
  pub printed : IsCurvePrinted dir (until_claim (stay_word stay) label) (until_objective stays goals) steps digits m text
  pub finite : IsFiniteCurve steps printed.curve

-- the same for the reward name
pub record IsTotalCurvePrinted (dir : Dir) (name : List ℕ) (steps digits : ℕ) (m : Mdp) (text : List ℕ) : Type 0 where
  pub place : ℕ
  pub place_is : place_of name m.names ≡ Some place
  pub printed : IsCurvePrinted dir (total_claim name) (total_objective place) steps digits m text

-- Laws of what is due to `curve`, over the definitions alone.
use Rattle.std.specs.Prelude.{ℕ, ◌≤◌, List, Option, Ok}
use Rattle.mdp_spec.specs.{Mdp.{Mdp}, Row.{IsMdp}}
use Rattle.mdp_rows.specs.declared.dir.Dir.{Dir}
use Rattle.mdp_command_horizon.specs.{CurveDue.{IsUntilCurveDue, IsTotalCurveDue}, CurvePrinted.{IsUntilCurvePrinted, IsTotalCurvePrinted}}

-- a text that is due is that of a curve
abbrev pub UntilTextIsCurve : Type 0
UntilTextIsCurve =
    (dir : Dir) (stay : Option (List ℕ)) (label : List ℕ) (steps digits : ℕ) (m : Mdp) (text : List ℕ) → IsMdp m → digits ≤ 30 → IsUntilCurveDue dir stay label steps digits m (Ok text)
    → IsUntilCurvePrinted dir stay label steps digits m text

abbrev pub TotalTextIsCurve : Type 0
TotalTextIsCurve =
    (dir : Dir) (name : List ℕ) (steps digits : ℕ) (m : Mdp) (text : List ℕ) → IsMdp m → IsTotalCurveDue dir name steps digits m (Ok text)
    → IsTotalCurvePrinted dir name steps digits m text

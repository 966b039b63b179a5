-- Laws of what is due to `bounds` within a number of steps, over the definitions alone.
use Rattle.std.specs.Prelude.{ℕ, ◌≤◌, List, Option, Ok}
use Rattle.mdp_spec.specs.{Mdp.{Mdp}, Row.{IsMdp}}
use Rattle.mdp_rows.specs.declared.dir.Dir.{Dir}
use Rattle.mdp_command_horizon.specs.{BoundsDue.{IsUntilBoundsDue, IsTotalBoundsDue}, BoundsPrinted.{AreUntilBoundsPrinted, AreTotalBoundsPrinted}}

-- a text that is due is that of bounds
abbrev pub UntilTextIsBetween : Type 0
UntilTextIsBetween =
    (dir : Dir) (stay : Option (List ℕ)) (label : List ℕ) (steps digits : ℕ) (m : Mdp) (text : List ℕ) → IsMdp m → digits ≤ 30
    → IsUntilBoundsDue dir stay label steps digits m (Ok text) → AreUntilBoundsPrinted dir stay label steps digits m text

abbrev pub TotalTextIsBetween : Type 0
TotalTextIsBetween =
    (dir : Dir) (name : List ℕ) (steps digits : ℕ) (m : Mdp) (text : List ℕ) → IsMdp m → IsTotalBoundsDue dir name steps digits m (Ok text)
    → AreTotalBoundsPrinted dir name steps digits m text

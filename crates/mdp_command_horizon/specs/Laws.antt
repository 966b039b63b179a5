-- Laws of what is due to the command, over the definitions alone.
use Rattle.std.specs.Prelude.{ℕ, List, Option, Ok}
use Rattle.mdp_spec.specs.{Mdp.{Mdp}, Row.{IsMdp}}
use Rattle.mdp_rows.specs.declared.dir.Dir.{Dir}
use Rattle.mdp_command_horizon.specs.{Due.{IsHorizonDue, IsTotalDue}, Printed.{IsHorizonPrinted, IsTotalPrinted}}

-- a text that is due is that of best values and a best table
abbrev pub TextIsAnswer : Type 0
TextIsAnswer =
    (dir : Dir) (stay : Option (List ℕ)) (label : List ℕ) (steps : ℕ) (m : Mdp) (text : List ℕ) → IsMdp m → IsHorizonDue dir stay label steps m (Ok text)
    → IsHorizonPrinted dir stay label steps m text

abbrev pub TotalTextIsAnswer : Type 0
TotalTextIsAnswer =
    (dir : Dir) (name : List ℕ) (steps : ℕ) (m : Mdp) (text : List ℕ) → IsMdp m → IsTotalDue dir name steps m (Ok text) → IsTotalPrinted dir name steps m text

-- Laws of what is due to a drill, over the definitions alone.
use Rattle.std.specs.Prelude.{◌≡◌, ℕ, List, Ok}
use Rattle.mdp_gen.specs.Layered.{IsShape}
use Rattle.mdp_command.specs.Said.{Said}
use Rattle.mdp_command_solve.specs.{Drilled.{GivesGreatest}, DrillDue.{IsDrillDue}}

-- it is one thing
abbrev pub IsDueOnce : Type 0
IsDueOnce = (number layers width : ℕ) (said again : Said) → IsDrillDue number layers width said → IsDrillDue number layers width again → said ≡ again

-- a line that is due gives the value of state 0 of an answer, whose values are the greatest probabilities of reaching the goal
abbrev pub LineIsGreatest : Type 0
LineIsGreatest = (number layers width : ℕ) (text : List ℕ) → IsShape layers width → IsDrillDue number layers width (Ok text) → GivesGreatest number layers width text

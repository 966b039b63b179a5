-- The errors of elimination, as contracts see them.
use Rattle.std.specs.Prelude.{ℕ}
use Rattle.mdp_wide.specs.declared.unfinished.Unfinished.{Unfinished}

-- why a system isn't solved: at this state a term is past width
abbrev pub ElimError : Type 0
ElimError = Unfinished ℕ

-- why one step isn't made
abbrev pub StepError : Type 0
StepError = Unfinished (Unit {0})

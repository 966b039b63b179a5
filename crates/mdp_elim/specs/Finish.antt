-- Eliminated equations that wait for their evaluation, the greatest state first; m is the number of states below theirs.
use Rattle.std.specs.{Prelude.{ℕ, ◌+◌, ◌<◌, List, [], ◌∷◌, length, Result, Ok, Err}, List.{All}}
use Rattle.mdp_elim.specs.{Equation.{Equation, Values}, Elimination.{evaluated, at_state, ◌and_then◌}, Errors.{ElimError, StepError}}
use Rattle.mdp_wide.specs.declared.unfinished.Unfinished.TheVariants as error

-- they are evaluated from the least state on
abbrev pub finish : ℕ → List Equation → Result Values ℕ → Result Values ℕ
finish m [] values = values
finish m (e ∷ done) values = finish m done values and_then (λ v. at_state (m + length done) (evaluated e v))

-- each of them leads to smaller states
abbrev pub LeadDown : ℕ → List Equation → Type 0
LeadDown m [] = Unit {0}
LeadDown m (e ∷ done) = All (λ x. x.target < m + length done) e.entries × LeadDown m done

-- an error of a step at state s
abbrev pub placed : {A : Type 0} → ℕ → Result A StepError → Result A ElimError
placed s (Ok x) = Ok x
placed s (Err (error.TooWide _)) = Err (error.TooWide s)
placed s (Err error.Memory) = Err error.Memory

-- What the code answers to an evaluation.
use Rattle.std.specs.Prelude.{◌≡◌, ℕ, Result, Ok, Err}
use Rattle.mdp_num.specs.declared.errors.Wide.{Wide}
use Rattle.mdp_elim.specs.Errors.{ElimError}
use Rattle.mdp_wide.specs.declared.unfinished.Unfinished.TheVariants as refused
use Rattle.mdp_witness.specs.declared.visited.Visited.{Visited}
use Rattle.mdp_witness.specs.Evaluation as evaluation

abbrev pub plain : Visited → evaluation.Visited
plain v = record { visits = v.visits.items; value = v.value }

-- a step at state s
abbrev pub placed_at : {A : Type 0} → ℕ → Result A Wide → Result A ElimError
placed_at s (Ok x) = Ok x
placed_at s (Err e) = Err (refused.TooWide s)

-- its value seen by f, the state of the first term past width, or want of memory, of which nothing is said
abbrev pub Answers : {A B : Type 0} → (A → B) → Result A ElimError → Result B ℕ → Type 0
Answers f (Ok x) r = r ≡ Ok (f x)
Answers f (Err (refused.TooWide s)) r = r ≡ Err s
Answers f (Err refused.Memory) r = Unit {0}

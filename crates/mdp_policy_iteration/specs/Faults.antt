-- Written places as errors of the code.
use Rattle.std.specs.Prelude.{◌≡◌, ℕ, Result, Ok, Err}
use Rattle.mdp_wide.specs.declared.too_wide.Kind.{Kind}
use Rattle.mdp_num.specs.declared.errors.Wide.{Wide}
use Rattle.mdp_policy_iteration.specs.{Places.{Place}, Errors.{RoundError}}
use Rattle.mdp_wide.specs.declared.unfinished.Unfinished.TheVariants as fault

-- a step for a choice of a node
abbrev pub placed_at : {A : Type 0} → Kind → ℕ → ℕ → Result A Wide → Result A RoundError
placed_at kind s c (Ok x) = Ok x
placed_at kind s c (Err e) = Err (fault.TooWide (record { kind = kind; node = s; choice = c }))

-- an error says that a computation ends at its place; want of memory says nothing
abbrev pub Says : {B : Type 0} → RoundError → Result B Place → Type 0
Says (fault.TooWide place) r = r ≡ Err place
Says fault.Memory r = Unit {0}

-- what the code answers to a computation: its value seen by f, its place, or want of memory
abbrev pub Answers : {A B : Type 0} → (A → B) → Result A RoundError → Result B Place → Type 0
Answers f (Ok x) r = r ≡ Ok (f x)
Answers f (Err e) r = Says e r

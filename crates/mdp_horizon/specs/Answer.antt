-- What the code answers, beside the definitions.
use Rattle.std.specs.{Prelude.{◌≡◌, ℕ, List, map, Vec, Result, Ok, Err}, Global.{Global}}
use Rattle.mdp_num.specs.declared.errors.Wide.{Wide}
use Rattle.mdp_horizon.specs.{Choices.{Best}, Written.{Place, Row, Answer}, Errors.{HorizonError}, declared.bounded.Bounded.{Bounded}}
use Rattle.mdp_horizon.specs.{declared.backup.Leader.{Leader}, declared.backup.Backups.{Backups}}
use Rattle.mdp_wide.specs.declared.unfinished.Unfinished.TheVariants as error

-- an error says that a computation ends at its place; want of memory says nothing
abbrev pub Says : {B : Type 0} → HorizonError → Result B Place → Type 0
Says (error.TooWide place) r = r ≡ Err place
Says error.Memory r = Unit {0}

-- what the code answers to a computation: its value seen by f, its place, or want of memory
abbrev pub Answers : {A B : Type 0} → (A → B) → Result A HorizonError → Result B Place → Type 0
Answers f (Ok x) r = r ≡ Ok (f x)
Answers f (Err e) r = Says e r

-- the values and the table that are printed
abbrev pub lists : List (Vec ℕ Global) → List (List ℕ)
lists table = map (λ choices. choices.items) table

abbrev pub plain : Bounded → Answer
plain b = record { values = b.values.items; steps = lists b.steps.items }

-- the best choice so far, and the states so far, as the code holds them
abbrev pub shown : Leader → Best
shown leader = record { value = leader.value; choice = leader.choice }

abbrev pub row_of : Backups → Row
row_of b = record { values = b.values.items; choices = b.choices.items }

-- a step for a choice of a state
abbrev pub placed : {A : Type 0} → ℕ → ℕ → ℕ → Result A Wide → Result A HorizonError
placed depth s c (Ok x) = Ok x
placed depth s c (Err e) = Err (error.TooWide (record { depth = depth; state = s; choice = c }))

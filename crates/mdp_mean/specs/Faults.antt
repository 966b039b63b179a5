-- Places of the join as errors of the code.
use Rattle.std.specs.{Prelude.{◌≡◌, ℕ, Option, Result, Ok, Err, Vec}, Global.{Global}}
use Rattle.mdp_wide.specs.declared.too_wide.Part.TheVariants as part
use Rattle.mdp_wide.specs.{Errors.{SolveError}, declared.too_wide.Kind.{Kind}}
use Rattle.mdp_wide.specs.declared.unfinished.Unfinished.TheVariants as error
use Rattle.mdp_num.specs.declared.errors.Wide.{Wide}
use Rattle.mdp_mean.specs.{Join.{Place}, Errors.{JoinError}}

-- a step for a state and a choice, where there is one
abbrev pub placed_at : {A : Type 0} → Kind → Option ℕ → Option ℕ → Result A Wide → Result A JoinError
placed_at kind s c (Ok x) = Ok x
placed_at kind s c (Err e) = Err (error.TooWide (record { kind = kind; state = s; choice = c }))

-- an error says that a computation ends at its place; want of memory says nothing
abbrev pub Says : {B : Type 0} → JoinError → Result B Place → Type 0
Says (error.TooWide place) r = r ≡ Err place
Says error.Memory r = Unit {0}

-- what the code answers to a computation: its value seen by f, its place, or want of memory
abbrev pub Answers : {A B : Type 0} → (A → B) → Result A JoinError → Result B Place → Type 0
Answers f (Ok x) r = r ≡ Ok (f x)
Answers f (Err e) r = Says e r

-- an error of the join, with the policy of all states
abbrev pub in_join : JoinError → Vec ℕ Global → SolveError
in_join (error.TooWide place) policy = error.TooWide (record { part = part.Join; round = 0; policy = policy; kind = place.kind; state = place.state; choice = place.choice })
in_join error.Memory policy = error.Memory

-- What the query of the best gain of an end component ends with, where the component was solved as a model of its own: the same, with the states' own numbers.
use Rattle.std.specs.Prelude.{ℕ, List, slice_index, Option, Some, None, Result, Ok, Err}
use Rattle.mdp_spec.specs.Mdp.{Mdp}
use Rattle.mdp_rows.specs.declared.dir.Dir.{Dir}
use Rattle.mdp_wide.specs.{declared.too_wide.Part.TheVariants.{Inner}, Term.{WideTerm}}
use Rattle.mdp_ends.specs.Ends.{AreEnds}
use Rattle.mdp_unichain.specs.Part.{members, IsPart}
use Rattle.mdp_gain.specs.{Query.{Answer, EndsSo}, Alone.{alone}}

-- the number in the model of the state of this place
abbrev pub state_in : List ℕ → Option ℕ → Option ℕ
state_in states None = None
state_in states (Some j) = Some (slice_index states j)

abbrev pub answer_in : List ℕ → Answer → Answer
answer_in states a = record { states = states; gain = a.gain; bias = a.bias; choices = a.choices }

abbrev pub term_in : List ℕ → ℕ → WideTerm → WideTerm
term_in states i w = record { part = Inner i; number = w.number; policy = w.policy; kind = w.kind; state = state_in states w.state; choice = w.choice }

abbrev pub end_in : List ℕ → ℕ → Result Answer WideTerm → Result Answer WideTerm
end_in states i (Ok a) = Ok (answer_in states a)
end_in states i (Err w) = Err (term_in states i w)

-- ---- law

-- the query of part 0 of the model alone ends as that of part i of the model
abbrev pub EndsAsAlone : Type 0
EndsAsAlone =
    (dir : Dir) (m : Mdp) (parts : List (Option ℕ)) (i r : ℕ) (ends : List (Option ℕ)) (q : Result Answer WideTerm) → IsPart m parts i → AreEnds (alone m parts i r) ends
    → EndsSo dir (alone m parts i r) ends 0 0 q → EndsSo dir m parts i r (end_in (members m parts i) i q)

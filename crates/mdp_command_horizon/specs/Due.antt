-- What is due to the commands `horizon` and `total`, and to the model: of a bounded until, and of the total reward of a name.
use Rattle.std.specs.Prelude.{◌≡◌, ℕ, ◌*◌, ◌^◌, Bool, true, List, Option, Some, None, Result, Ok, Err, replicate, codes, nat_lt, if◌then◌else◌}
use Rattle.mdp_math.specs.Result.{◌>>=◌}
use Rattle.mdp_spec.specs.{Labels.{place_of, marks_of}, Mdp.{Mdp, states_of}}
use Rattle.mdp_rows.specs.declared.dir.Dir.{Dir}
use Rattle.mdp_horizon.specs.{Spelling.{until_text, total_text}, Written.{Place, Answer, written_until, written_total}}
use Rattle.mdp_job.specs.Refusal.{PlainRefusal, query_label, query_reward, query_steps, horizon_wide}
use Rattle.mdp_command.specs.Said.{Said}

-- ---- what both have

-- the most choices that a table may have, one for each state and each step
abbrev pub most_choices : ℕ
most_choices = 2 ^ 22

-- the answer's text, or the first term past width
abbrev pub said_of_end : (Answer → List ℕ) → Result Answer Place → Said
said_of_end text (Ok a) = Ok (text a)
said_of_end text (Err p) = Err (horizon_wide p.depth p.state p.choice)

-- that, where the table of so many steps isn't too large
abbrev pub said_within : ℕ → Mdp → (Answer → List ℕ) → Result Answer Place → Said
said_within steps m text end = if nat_lt most_choices (steps * states_of m) then Err query_steps else said_of_end text end

-- ---- a bounded until

-- the states with the label of this place
abbrev pub marks_at : Mdp → Option ℕ → Result (List Bool) PlainRefusal
marks_at m None = Err query_label
marks_at m (Some l) = Ok (marks_of m l)

-- the states with this label
abbrev pub states_with : Mdp → List ℕ → Result (List Bool) PlainRefusal
states_with m label = marks_at m (place_of label m.labels)

-- the states that stay: those with a label, or every state
abbrev pub states_that_stay : Mdp → Option (List ℕ) → Result (List Bool) PlainRefusal
states_that_stay m None = Ok (replicate (states_of m) true)
states_that_stay m (Some label) = states_with m label

-- the word for them
abbrev pub stay_word : Option (List ℕ) → List ℕ
stay_word None = codes "-"
stay_word (Some label) = label

-- what is said of states that stay and goals
abbrev pub said_of_marks : Dir → Option (List ℕ) → List ℕ → ℕ → Mdp → List Bool → List Bool → Said
said_of_marks dir stay label steps m stays goals = said_within steps m (until_text dir (stay_word stay) label m) (written_until dir m stays goals steps)

-- the labels first, then the number of steps
abbrev pub IsHorizonDue : Dir → Option (List ℕ) → List ℕ → ℕ → Mdp → Said → Type 0
IsHorizonDue dir stay label steps m said =
    said ≡ states_that_stay m stay >>= (λ stays. states_with m label >>= (λ goals. said_of_marks dir stay label steps m stays goals))

-- ---- the total reward of a name

-- a name that the model has, by its place
abbrev pub name_at : Option ℕ → Result ℕ PlainRefusal
name_at None = Err query_reward
name_at (Some r) = Ok r

-- what is said of the name of this place
abbrev pub said_of_name : Dir → List ℕ → ℕ → Mdp → ℕ → Said
said_of_name dir name steps m r = said_within steps m (total_text dir name m) (written_total dir m r steps)

-- the name first, then the number of steps
abbrev pub IsTotalDue : Dir → List ℕ → ℕ → Mdp → Said → Type 0
IsTotalDue dir name steps m said = said ≡ name_at (place_of name m.names) >>= said_of_name dir name steps m

-- Backward induction for an objective (Puterman 1994, section 4.5), in written arithmetic: the values with no step left, then those with one step
-- more, and so on. It gives the values and the choices, or says where the first term past width is.
use Rattle.std.specs.{Prelude.{ℕ, zero, suc, ◌-◌, Bool, List, [], ◌∷◌, ◌++◌, length, map, Option, Some, None, Result, Ok, Err}, List.{range_with_len}}
use Rattle.mdp_math.specs.{Rational.{ℚ}, Result.{◌>>=◌}}
use Rattle.mdp_spec.specs.Mdp.{Mdp, states_of, choices_at}
use Rattle.mdp_rows.specs.declared.dir.Dir.{Dir}
use Rattle.mdp_horizon.specs.{Objective.{Objective, stops, ending}, Objective.Objective.{until, total}, Choices.{Best, best, sum_of_choice, compared}}
use Rattle.mdp_horizon.specs.declared.error.HorizonPlace.{HorizonPlace}

-- f 0, .., f (n - 1) in turn, from a start on; the first refusal ends it
abbrev pub in_turn : {A R : Type 0} → (ℕ → A → Result A R) → Result A R → ℕ → Result A R
in_turn f start zero = start
in_turn f start (suc n) = in_turn f start n >>= f n

-- where a term is past width: how many steps are left, the state, and the choice whose sum is made or compared
abbrev pub Place : Type 0
Place = HorizonPlace

abbrev pub at_place : {A : Type 0} → ℕ → ℕ → ℕ → Option A → Result A Place
at_place depth s c None = Err (record { depth = depth; state = s; choice = c })
at_place depth s c (Some x) = Ok x

-- the values and the choices of the states, from state 0 on
pub record Row : Type 0 where
  pub values : List ℚ
  pub choices : List ℕ

-- the values, and the choices of each step, those of the first step first
pub record Answer : Type 0 where
  pub values : List ℚ
  pub steps : List (List ℕ)

-- with `depth` steps left: the first choice is taken, and a later one where it is strictly better
abbrev pub first_choice : Mdp → Objective → ℕ → List ℚ → ℕ → Result Best Place
first_choice m o depth z s = at_place depth s 0 (sum_of_choice m o z s 0) >>= (λ sum. Ok (best sum 0))

abbrev pub next_choice : Dir → Mdp → Objective → ℕ → List ℚ → ℕ → ℕ → Best → Result Best Place
next_choice dir m o depth z s c leader = at_place depth s (suc c) (compared dir m o z s (suc c) leader)

abbrev pub best_choice : Dir → Mdp → Objective → ℕ → List ℚ → ℕ → Result Best Place
best_choice dir m o depth z s = in_turn (next_choice dir m o depth z s) (first_choice m o depth z s) (length (choices_at m s) - 1)

-- with `depth` steps left, where z are the values with a step less: where the state stops its value, else that of the best choice
abbrev pub stopped_or : Option ℚ → Result Best Place → Result Best Place
stopped_or (Some x) other = Ok (best x 0)
stopped_or None other = other

abbrev pub backup : Dir → Mdp → Objective → ℕ → List ℚ → ℕ → Result Best Place
backup dir m o depth z s = stopped_or (stops m o s) (best_choice dir m o depth z s)

-- all states, ascending
abbrev pub with_state : Row → Best → Row
with_state row x = record { values = row.values ++ x.value ∷ []; choices = row.choices ++ x.choice ∷ [] }

abbrev pub next_state : Dir → Mdp → Objective → ℕ → List ℚ → ℕ → Row → Result Row Place
next_state dir m o depth z s row = backup dir m o depth z s >>= (λ x. Ok (with_state row x))

abbrev pub no_states : Row
no_states = record { values = []; choices = [] }

abbrev pub backups : Dir → Mdp → Objective → ℕ → List ℚ → Result Row Place
backups dir m o depth z = in_turn (next_state dir m o depth z) (Ok no_states) (states_of m)

-- with no step left
abbrev pub endings : Mdp → Objective → List ℚ
endings m o = map (ending m o) (range_with_len 0 (states_of m))

abbrev pub no_steps : Mdp → Objective → Answer
no_steps m o = record { values = endings m o; steps = [] }

-- one step more
abbrev pub with_step : Answer → Row → Answer
with_step a row = record { values = row.values; steps = row.choices ∷ a.steps }

abbrev pub next_step : Dir → Mdp → Objective → ℕ → Answer → Result Answer Place
next_step dir m o n a = backups dir m o (suc n) a.values >>= (λ row. Ok (with_step a row))

-- the values with so many steps left, and the choices
abbrev pub written_values : Dir → Mdp → Objective → ℕ → Result Answer Place
written_values dir m o steps = in_turn (next_step dir m o) (Ok (no_steps m o)) steps

-- for a bounded until, and for the total reward of the name of this place
abbrev pub written_until : Dir → Mdp → List Bool → List Bool → ℕ → Result Answer Place
written_until dir m stay goals steps = written_values dir m (until stay goals) steps

abbrev pub written_total : Dir → Mdp → ℕ → ℕ → Result Answer Place
written_total dir m r steps = written_values dir m (total r) steps

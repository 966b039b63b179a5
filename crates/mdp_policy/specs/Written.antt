-- The value of a given policy in written arithmetic: its evaluation by state elimination, and then for the greatest and for the least values the
-- first state at which a choice is strictly better than the value, where there is one. It gives these, or says where the first term past width is.
use Rattle.std.specs.Prelude.{ℕ, Bool, not, ◌&&◌, List, [], ◌∷◌, length, map, slice_index, slice_index_or, Option, Some, None, Result, Ok, if◌then◌else◌, pos}
use Rattle.std.specs.List.{range_with_len}
use Rattle.mdp_math.specs.{Rational.{ℚ, of_int}, Result.{◌>>=◌}}
use Rattle.mdp_spec.specs.{Mdp.{Mdp, states_of, choices_at, row_at, value_at}, Tree.{is_marked}, Written.{written_sum}}
use Rattle.mdp_rows.specs.{declared.dir.Dir.{Dir}, declared.dir.Dir.TheVariants.{Max, Min}}
use Rattle.mdp_elim.specs.Solve.{written_solution}
use Rattle.mdp_policy_iteration.specs.{Places.{Place, at_place, up_to}, Candidates.{Best}, Path.{outer, evaluating, comparing, placed}}
use Rattle.mdp_reach.specs.Query.{policy_rows}
use Rattle.mdp_horizon.specs.Written.{in_turn}
use Rattle.mdp_policy.specs.{Choices.{compared}, declared.value.Change.{Change}}

-- ---- evaluation. The marks are those of the states from which the policy can reach a goal

-- a state that is no goal and is marked
abbrev pub is_under_way : List Bool → List Bool → ℕ → Bool
is_under_way goals marks s = not (is_marked goals s) && is_marked marks s

abbrev pub under_way : Mdp → List Bool → List Bool → List Bool
under_way m goals marks = map (is_under_way goals marks) (range_with_len 0 (states_of m))

-- 1 at a goal, 0 elsewhere
abbrev pub goal_value : List Bool → ℕ → ℚ
goal_value goals s = if is_marked goals s then of_int (pos 1) else of_int (pos 0)

abbrev pub goal_values : Mdp → List Bool → List ℚ
goal_values m goals = map (goal_value goals) (range_with_len 0 (states_of m))

-- the constant of a state's equation: under way the sum over the entries to states that aren't
abbrev pub constant_of : Mdp → List Bool → List Bool → List ℕ → ℕ → Option ℚ
constant_of m goals marks policy s =
    if is_under_way goals marks s
    then written_sum (goal_values m goals) (of_int (pos 0)) (outer (under_way m goals marks) (row_at m s (slice_index policy s)))
    else Some (of_int (pos 0))

abbrev pub constant : Mdp → List Bool → List Bool → List ℕ → ℕ → Result ℚ Place
constant m goals marks policy s = at_place (evaluating policy s) (constant_of m goals marks policy s)

abbrev pub constants : Mdp → List Bool → List Bool → List ℕ → Result (List ℚ) Place
constants m goals marks policy = up_to (constant m goals marks policy) (states_of m)

-- 1 at a goal, and what was solved for elsewhere
abbrev pub value_by : List Bool → List ℚ → ℕ → ℚ
value_by goals x s = if is_marked goals s then of_int (pos 1) else value_at x s

abbrev pub values_by : Mdp → List Bool → List ℚ → List ℚ
values_by m goals x = map (value_by goals x) (range_with_len 0 (states_of m))

abbrev pub eliminated : Mdp → List Bool → List Bool → List ℕ → List ℚ → Result (List (List ℚ)) Place
eliminated m goals marks policy constants = placed policy (written_solution (policy_rows m policy) (under_way m goals marks) (constants ∷ []))

abbrev pub solved : Mdp → List Bool → List Bool → List ℕ → List ℚ → Result (List ℚ) Place
solved m goals marks policy constants = eliminated m goals marks policy constants >>= (λ xs. Ok (values_by m goals (slice_index_or xs 0 [])))

-- the constants in the order of the states, then elimination
abbrev pub evaluated : Mdp → List Bool → List Bool → List ℕ → Result (List ℚ) Place
evaluated m goals marks policy = constants m goals marks policy >>= solved m goals marks policy

-- ---- comparison

abbrev pub next_choice : Dir → Mdp → List ℚ → ℕ → ℕ → Best → Result Best Place
next_choice dir m x s c best = at_place (comparing s c) (compared dir m x s c best)

-- the first n choices of state s, from its value on
abbrev pub own : List ℚ → ℕ → Best
own x s = record { value = value_at x s; choice = None }

abbrev pub best_of : Dir → Mdp → List ℚ → ℕ → ℕ → Result Best Place
best_of dir m x s n = in_turn (next_choice dir m x s) (Ok (own x s)) n

-- the choice that is taken at state s, where it is no goal and one is: the last one
abbrev pub taken_at : Dir → Mdp → List Bool → List ℚ → ℕ → Result (Option ℕ) Place
taken_at dir m goals x s = if is_marked goals s then Ok None else (best_of dir m x s (length (choices_at m s)) >>= (λ best. Ok best.choice))

abbrev pub change_at : ℕ → Option ℕ → Option Change
change_at s None = None
change_at s (Some c) = Some (record { state = s; choice = c })

-- ascending: it stops at the first state where one is taken
abbrev pub next_state : Dir → Mdp → List Bool → List ℚ → ℕ → Option Change → Result (Option Change) Place
next_state dir m goals x s (Some change) = Ok (Some change)
next_state dir m goals x s None = taken_at dir m goals x s >>= (λ choice. Ok (change_at s choice))

abbrev pub first_change : Dir → Mdp → List Bool → List ℚ → ℕ → Result (Option Change) Place
first_change dir m goals x n = in_turn (next_state dir m goals x) (Ok None) n

-- ---- the value

pub record Answer : Type 0 where
  pub values : List ℚ
  pub up : Option Change
  pub down : Option Change

abbrev pub with_changes : Mdp → List Bool → List ℚ → Result Answer Place
with_changes m goals x =
    first_change Max m goals x (states_of m) >>= (λ up. first_change Min m goals x (states_of m) >>= (λ down. Ok (record { values = x; up = up; down = down })))

abbrev pub written_value : Mdp → List Bool → List Bool → List ℕ → Result Answer Place
written_value m goals marks policy = evaluated m goals marks policy >>= with_changes m goals

-- The evaluation of a set of states for the greatest probability, by the expected visits of the policy, in written arithmetic.
use Rattle.std.specs.Prelude.{◌≡◌, ℕ, zero, suc, Bool, List, [], ◌∷◌, replicate, slice_index, Option, Some, None, Result, Ok, Err, pos, if◌then◌else◌}
use Rattle.mdp_math.specs.{Rational.{ℚ, of_int}, Result.{◌>>=◌}, Written.{written_add, written_mul}}
use Rattle.mdp_math.specs.Written as written
use Rattle.mdp_spec.specs.{Mdp.{Entry, Mdp, states_of, row_at, value_at}, Tree.{is_marked}}
use Rattle.mdp_elim.specs.Visits.{written_visits}
use Rattle.mdp_reach.specs.Query.{policy_rows}
use Rattle.mdp_subsystem_rules.specs.Flow.{goal_source}

-- how often the policy visits each state of the set; a set without the start has no visits. Or the state at whose step a term is past width
abbrev pub visits_on : Mdp → List ℕ → ℕ → List Bool → Result (List ℚ) ℕ
visits_on m policy start set = if is_marked set start then written_visits (policy_rows m policy) set start else Ok (replicate (states_of m) (of_int (pos 0)))

-- the sum, and visits times the probability of an entry that leads to a goal
abbrev pub with_arrival : List Bool → ℚ → ℚ → Entry → Option ℚ
with_arrival goals visits sum x = if is_marked goals x.target then written.◌>>=◌ (written_mul visits x.prob) (λ term. written_add sum term) else Some sum

-- the same for each entry of a row, in order
abbrev pub with_arrivals : List Bool → ℚ → ℚ → List Entry → Option ℚ
with_arrivals goals visits sum [] = Some sum
with_arrivals goals visits sum (x ∷ row) = written.◌>>=◌ (with_arrival goals visits sum x) (λ next. with_arrivals goals visits next row)

-- a term past width is one of state s
abbrev pub placed : ℕ → Option ℚ → Result ℚ ℕ
placed s None = Err s
placed s (Some x) = Ok x

-- the arrivals from the states of the set below n, ascending; before them 1 where the start is a goal, else 0
abbrev pub arrivals_below : Mdp → List Bool → List ℕ → ℕ → List Bool → List ℚ → ℕ → Result ℚ ℕ
arrivals_below m goals policy start set y zero = Ok (goal_source goals start)
arrivals_below m goals policy start set y (suc s) =
    arrivals_below m goals policy start set y s
    >>= λ sum. if is_marked set s then placed s (with_arrivals goals (value_at y s) sum (row_at m s (slice_index policy s))) else Ok sum

-- the visits, and the probability to come from the start to a goal through states of the set
pub record Visited : Type 0 where
  pub visits : List ℚ
  pub value : ℚ

abbrev pub arrived : Mdp → List Bool → List ℕ → ℕ → List Bool → List ℚ → Result Visited ℕ
arrived m goals policy start set y = arrivals_below m goals policy start set y (states_of m) >>= λ value. Ok (record { visits = y; value = value })

abbrev pub visited : Mdp → List Bool → List ℕ → ℕ → List Bool → Result Visited ℕ
visited m goals policy start set = visits_on m policy start set >>= λ y. arrived m goals policy start set y

-- it has one end; and the value that is held against the threshold
abbrev pub Visits : Mdp → List Bool → List ℕ → ℕ → List Bool → Result Visited ℕ → Type 0
Visits m goals policy start set r = r ≡ visited m goals policy start set

abbrev pub visited_value : Visited → ℚ
visited_value v = v.value

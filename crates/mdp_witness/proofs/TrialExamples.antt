-- The first set, the evaluations and the trials of a small model, computed. State 0 goes to 1 and to the goal 3 with 1/2 each, or by its second choice
-- to 2; states 1 and 2 go to 3 and to 4 with 1/2 each; states 3 and 4 are left nowhere. From 0 the goal is reached with 3/4 at most and 1/2 at least.
use Rattle.std.proofs.Common.{◌≡◌, ℕ, zero, suc, ◌<◌, Bool, true, false, List, [], ◌∷◌, Result, Ok, Err, refl, subst, arith}
use Rattle.std.proofs.lemmas.List.Elements.{All-from_recursion}
use Rattle.std.specs.List.{All}
use Rattle.mdp_math.specs.{Gcd.{gcd, gcd_with_fuel}, Rational.{ℚ, of_int, ratio, lt_ℚ, ◌+ℚ◌, ◌*ℚ◌, neg_ℚ, inv_ℚ}}
use Rattle.mdp_math.specs.Written.{written_add, written_mul, written_compare, narrow, narrow_ℚ}
use Rattle.mdp_math.proofs.Tables.{AreEqual}
use Rattle.mdp_spec.specs.{Mdp.{Entry, State, Mdp, row_at}, Tree.{is_marked}}
use Rattle.mdp_spec.proofs.Small.{choice, entry, half, nought, one, state, three_quarters}
use Rattle.mdp_elim.specs.{Elimination.{divided_rest, plus_equation, eliminated, evaluated}, System.{equation_of}}
use Rattle.mdp_wide.specs.Term.{WideTerm}
use Rattle.mdp_reach.specs.Query.{Answer}
use Rattle.mdp_rows.specs.declared.dir.Dir.TheVariants.{Max, Min}
use Rattle.mdp_witness.specs.{declared.trial.Trial.TheVariants.{Goes, Needed, PastWidth}, Evaluation.{Visited, Visits, visited, visited_value}}
use Rattle.mdp_witness.specs.{First.{is_open, followed, IsClosed, IsFirst}, LeastEvaluation.{value_from}}
use Rattle.mdp_witness.specs.Trial.{trial_set, without, trial_of, stays, is_wide, IsTried, AreLeft}

abbrev pub falls : State
falls = state (choice (entry 3 half ∷ entry 4 half ∷ []) ∷ [])

abbrev pub five : Mdp
five = record {
  names = [];
  labels = [];
  states =
      state (choice (entry 1 half ∷ entry 3 half ∷ []) ∷ choice (entry 2 one ∷ []) ∷ []) ∷ falls ∷ falls ∷ state (choice (entry 3 one ∷ []) ∷ []) ∷ state (choice (entry 4 one ∷ []) ∷ []) ∷ [];
}

abbrev pub goals : List Bool
goals = false ∷ false ∷ false ∷ true ∷ false ∷ []

abbrev pub greatest : List ℚ
greatest = three_quarters ∷ half ∷ half ∷ one ∷ nought ∷ []

abbrev pub least : List ℚ
least = half ∷ half ∷ half ∷ one ∷ nought ∷ []

abbrev pub best : List ℕ
best = 0 ∷ 0 ∷ 0 ∷ 0 ∷ 0 ∷ []

abbrev pub worst : List ℕ
worst = 1 ∷ 0 ∷ 0 ∷ 0 ∷ 0 ∷ []

-- the sets {0, 1}, {0, 1, 2}, {0} and {1}, and none
abbrev pub two_states : List Bool
two_states = true ∷ true ∷ false ∷ false ∷ false ∷ []

abbrev pub three_states : List Bool
three_states = true ∷ true ∷ true ∷ false ∷ false ∷ []

abbrev pub start_alone : List Bool
start_alone = true ∷ false ∷ false ∷ false ∷ false ∷ []

abbrev one_alone : List Bool
one_alone = false ∷ true ∷ false ∷ false ∷ false ∷ []

abbrev pub no_states : List Bool
no_states = false ∷ false ∷ false ∷ false ∷ false ∷ []

-- ---- the first set: by the policy of the greatest probability 0 and 1, for the least one 2 as well

abbrev Enters : List ℚ → List Bool → Entry → Type 0
Enters z set x = is_open goals z x.target ≡ true → is_marked set x.target ≡ true

abbrev pub FirstMax : List Bool → Type 0
FirstMax = IsFirst Max five goals greatest best 0

abbrev pub FirstMin : List Bool → Type 0
FirstMin = IsFirst Min five goals least worst 0

closed_max : IsClosed Max five goals greatest best 0 (is_marked two_states)
unfolding lt_ℚ ratio of_int gcd gcd_with_fuel
closed_max = record { has_start = λ e. refl; has_next = next }
  where
    next : (s : ℕ) → s < 5 → is_marked two_states s ≡ true → All (λ c. All (Enters greatest two_states) (row_at five s c)) (followed Max five best s)
    next zero l h =
        All-from_recursion (λ c. All (Enters greatest two_states) (row_at five 0 c)) (0 ∷ [])
        (All-from_recursion (Enters greatest two_states) (entry 1 half ∷ entry 3 half ∷ []) (λ e. refl, (λ e. cc, tt)), tt)
    next (suc zero) l h =
        All-from_recursion (λ c. All (Enters greatest two_states) (row_at five 1 c)) (0 ∷ [])
        (All-from_recursion (Enters greatest two_states) (entry 3 half ∷ entry 4 half ∷ []) (λ e. cc, (λ e. cc, tt)), tt)
    next (suc (suc zero)) l h = cc
    next (suc (suc (suc zero))) l h = cc
    next (suc (suc (suc (suc zero)))) l h = cc
    next (suc (suc (suc (suc (suc s))))) l h = absurd (omega arith)

pub first_max : FirstMax two_states
unfolding lt_ℚ ratio of_int gcd gcd_with_fuel
first_max = record { one_each = refl; is_open = opened; closed = closed_max; least = within }
  where
    opened : (s : ℕ) → s < 5 → is_marked two_states s ≡ true → is_open goals greatest s ≡ true
    opened zero l h = refl
    opened (suc zero) l h = refl
    opened (suc (suc zero)) l h = cc
    opened (suc (suc (suc zero))) l h = cc
    opened (suc (suc (suc (suc zero)))) l h = cc
    opened (suc (suc (suc (suc (suc s))))) l h = absurd (omega arith)

    within : (set : ℕ → Bool) → IsClosed Max five goals greatest best 0 set → (s : ℕ) → s < 5 → is_marked two_states s ≡ true → set s ≡ true
    within set closed zero l h = closed.has_start refl
    within set closed (suc zero) l h = closed.has_next 0 (omega arith) (closed.has_start refl) 0 0 (omega arith) 0 (entry 0 one) (omega arith) refl
    within set closed (suc (suc zero)) l h = cc
    within set closed (suc (suc (suc zero))) l h = cc
    within set closed (suc (suc (suc (suc zero)))) l h = cc
    within set closed (suc (suc (suc (suc (suc s))))) l h = absurd (omega arith)

pub first_min : FirstMin three_states
unfolding lt_ℚ ratio of_int gcd gcd_with_fuel
first_min = record { one_each = refl; is_open = opened; closed = record { has_start = λ e. refl; has_next = next }; least = within }
  where
    opened : (s : ℕ) → s < 5 → is_marked three_states s ≡ true → is_open goals least s ≡ true
    opened zero l h = refl
    opened (suc zero) l h = refl
    opened (suc (suc zero)) l h = refl
    opened (suc (suc (suc zero))) l h = cc
    opened (suc (suc (suc (suc zero)))) l h = cc
    opened (suc (suc (suc (suc (suc s))))) l h = absurd (omega arith)

    falling : All (Enters least three_states) (entry 3 half ∷ entry 4 half ∷ [])
    falling = All-from_recursion (Enters least three_states) (entry 3 half ∷ entry 4 half ∷ []) (λ e. cc, (λ e. cc, tt))

    next : (s : ℕ) → s < 5 → is_marked three_states s ≡ true → All (λ c. All (Enters least three_states) (row_at five s c)) (followed Min five worst s)
    next zero l h =
        All-from_recursion (λ c. All (Enters least three_states) (row_at five 0 c)) (0 ∷ 1 ∷ []) (
          All-from_recursion (Enters least three_states) (entry 1 half ∷ entry 3 half ∷ []) (λ e. refl, (λ e. cc, tt)),
          (All-from_recursion (Enters least three_states) (entry 2 one ∷ []) (λ e. refl, tt), tt),
        )
    next (suc zero) l h = All-from_recursion (λ c. All (Enters least three_states) (row_at five 1 c)) (0 ∷ []) (falling, tt)
    next (suc (suc zero)) l h = All-from_recursion (λ c. All (Enters least three_states) (row_at five 2 c)) (0 ∷ []) (falling, tt)
    next (suc (suc (suc zero))) l h = cc
    next (suc (suc (suc (suc zero)))) l h = cc
    next (suc (suc (suc (suc (suc s))))) l h = absurd (omega arith)

    within : (set : ℕ → Bool) → IsClosed Min five goals least worst 0 set → (s : ℕ) → s < 5 → is_marked three_states s ≡ true → set s ≡ true
    within set closed zero l h = closed.has_start refl
    within set closed (suc zero) l h = closed.has_next 0 (omega arith) (closed.has_start refl) 0 0 (omega arith) 0 (entry 0 one) (omega arith) refl
    within set closed (suc (suc zero)) l h = closed.has_next 0 (omega arith) (closed.has_start refl) 1 0 (omega arith) 0 (entry 0 one) (omega arith) refl
    within set closed (suc (suc (suc zero))) l h = cc
    within set closed (suc (suc (suc (suc zero)))) l h = cc
    within set closed (suc (suc (suc (suc (suc s))))) l h = absurd (omega arith)

-- with 2, which the policy doesn't come to, it isn't the first set of the greatest probability; without 2 it isn't that of the least one
not_reached : FirstMax three_states → ⊥
not_reached is = let e : false ≡ true = is.least (is_marked two_states) closed_max 2 (omega arith) refl in cc

not_closed : FirstMin two_states → ⊥
unfolding lt_ℚ ratio of_int gcd gcd_with_fuel
not_closed is = let e : false ≡ true = is.closed.has_next 0 (omega arith) refl 1 0 (omega arith) 0 (entry 0 one) (omega arith) refl in cc

-- ---- the evaluation of a set

abbrev of_set : List Bool → Result Visited ℕ
of_set set = visited five goals best 0 set

visits_of_sets : AreEqual (
    -- state 0 is visited once, state 1 half of the time, and the goal is reached with 1/2 + 1/4
    (of_set two_states, Ok (record { visits = one ∷ half ∷ nought ∷ nought ∷ nought ∷ []; value = three_quarters })) ∷
    -- without state 1 the half to it is lost, and without the start there are no visits
    (of_set start_alone, Ok (record { visits = one ∷ nought ∷ nought ∷ nought ∷ nought ∷ []; value = half })) ∷
    (of_set one_alone, Ok (record { visits = nought ∷ nought ∷ nought ∷ nought ∷ nought ∷ []; value = nought })) ∷  -- no visits
    []
    )
unfolding equation_of eliminated divided_rest plus_equation evaluated written_add written_mul narrow narrow_ℚ ◌+ℚ◌ ◌*ℚ◌ neg_ℚ inv_ℚ ratio of_int gcd gcd_with_fuel
visits_of_sets = refl

-- ---- a set without a state; one that isn't in it, or is past the last, changes nothing

sets_without : AreEqual (
    (without two_states 1, start_alone) ∷  -- without one
    (without two_states 0, one_alone) ∷  -- without start
    (without two_states 2, two_states) ∷  -- without other
    (without two_states 5, two_states) ∷  -- without past
    []
    )
sets_without = refl

-- the set in which a state is tried has more, where a lesser state goes later: here 0
tried_more : trial_set two_states one_alone 1 ≡ start_alone
tried_more = refl

without_less : without one_alone 1 ≡ no_states
without_less = refl

-- ---- trials: without state 1 the value is 1/2, which is a threshold of 1/2 still

goes : trial_of visited_value half (of_set start_alone) ≡ Goes
unfolding equation_of eliminated divided_rest plus_equation evaluated written_add written_mul written_compare narrow narrow_ℚ ◌+ℚ◌ ◌*ℚ◌ neg_ℚ inv_ℚ ratio of_int gcd gcd_with_fuel
goes = refl

needed : trial_of visited_value three_quarters (of_set start_alone) ≡ Needed
unfolding equation_of eliminated divided_rest plus_equation evaluated written_add written_mul written_compare narrow narrow_ℚ ◌+ℚ◌ ◌*ℚ◌ neg_ℚ inv_ℚ ratio of_int gcd gcd_with_fuel
needed = refl

-- a state whose trial has a term past width stays, and is marked
past_width : trial_of visited_value half (let r : Result Visited ℕ = Err 0 in r) ≡ PastWidth
past_width = refl

wide_stays : stays PastWidth ≡ true
wide_stays = refl

wide_is_marked : is_wide PastWidth ≡ true
wide_is_marked = refl

-- of an answer to a query, by its value at the start
least_goes : trial_of (value_from 0) half (let r : Result Answer WideTerm = Ok (record { values = least; choices = worst; ranks = [] }) in r) ≡ Goes
unfolding written_compare narrow narrow_ℚ ratio of_int gcd gcd_with_fuel
least_goes = refl

-- at the threshold 1/2 state 1 goes, and then the start is needed
pub left : AreLeft (Visits five goals best 0) visited_value half two_states start_alone no_states (record { visits = one ∷ nought ∷ nought ∷ nought ∷ nought ∷ []; value = half })
unfolding equation_of eliminated divided_rest plus_equation evaluated written_add written_mul written_compare narrow narrow_ℚ ◌+ℚ◌ ◌*ℚ◌ neg_ℚ inv_ℚ ratio of_int gcd gcd_with_fuel
left = record { one_kept_each = refl; one_wide_each = refl; outside = out; tried = tried; evaluated = refl }
  where
    out : (x : ℕ) → x < 5 → is_marked two_states x ≡ false → (is_marked start_alone x ≡ false) × (is_marked no_states x ≡ false)
    out zero l h = cc
    out (suc zero) l h = cc
    out (suc (suc zero)) l h = (refl, refl)
    out (suc (suc (suc zero))) l h = (refl, refl)
    out (suc (suc (suc (suc zero)))) l h = (refl, refl)
    out (suc (suc (suc (suc (suc x))))) l h = absurd (omega arith)

    tried : (x : ℕ) → x < 5 → is_marked two_states x ≡ true → IsTried (Visits five goals best 0) visited_value half two_states start_alone no_states x
    tried zero l h = record { evaluation = of_set no_states; evaluated = refl; keeps = refl; marks = refl }
    tried (suc zero) l h = record { evaluation = of_set start_alone; evaluated = refl; keeps = refl; marks = refl }
    tried (suc (suc zero)) l h = cc
    tried (suc (suc (suc zero))) l h = cc
    tried (suc (suc (suc (suc zero)))) l h = cc
    tried (suc (suc (suc (suc (suc x))))) l h = absurd (omega arith)

-- that both stay isn't what the trials leave
not_left : (wide : List Bool) (last : Visited) → is_marked wide 1 ≡ false → AreLeft (Visits five goals best 0) visited_value half two_states two_states wide last → ⊥
unfolding equation_of eliminated divided_rest plus_equation evaluated written_add written_mul written_compare narrow narrow_ℚ ◌+ℚ◌ ◌*ℚ◌ neg_ℚ inv_ℚ ratio of_int gcd gcd_with_fuel
not_left wide last w is =
    let t = is.tried 1 (omega arith) refl in
    let e : true ≡ stays (trial_of visited_value half (of_set start_alone)) = subst (λ (r : Result Visited ℕ). true ≡ stays (trial_of visited_value half r)) t.evaluated t.keeps in
    let f : true ≡ false = e in cc

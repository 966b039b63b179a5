-- Paths of reachability, computed.
use Rattle.std.proofs.Common.{◌≡◌, ℕ, [], ◌∷◌, List, Bool, true, false, Some, Result, Ok, Err, refl, arith, pos}
use Rattle.mdp_math.specs.{Gcd.{gcd, gcd_with_fuel}, Rational.{of_int, ratio, ◌+ℚ◌, ◌*ℚ◌, neg_ℚ, inv_ℚ}}
use Rattle.mdp_math.specs.Written.{written_add, written_mul, written_compare, narrow, narrow_ℚ}
use Rattle.mdp_spec.specs.Mdp.{Mdp, State, Choice}
use Rattle.mdp_spec.proofs.Small.{bare, choice, entry, state}
use Rattle.mdp_elim.specs.{Elimination.{divided_rest, plus_equation, eliminated, evaluated}, System.{equation_of}}
use Rattle.mdp_rows.specs.declared.dir.Dir.TheVariants.{Max, Min}
use Rattle.mdp_policy_iteration.specs.{Iteration.{iterated}, Path.{Found, Refusal, evaluating, path_step}, Laws.{first}}
use Rattle.mdp_reach.specs.{Problem.{reach_problem}, Query.{HasOneEach}, Round.{last_round}}

abbrev stays : ℕ → State
stays s = state (choice (entry s (of_int (pos 1)) ∷ []) ∷ [])

-- state 0 stays, or goes to the goal 1 with 1/3 and to 2 with 2/3, where it stays
abbrev waits : Mdp
waits = bare (state (choice (entry 0 (of_int (pos 1)) ∷ []) ∷ choice (entry 1 (ratio (pos 1) 3) ∷ entry 2 (ratio (pos 2) 3) ∷ []) ∷ []) ∷ stays 1 ∷ stays 2 ∷ [])

abbrev goal_1 : List Bool
goal_1 = false ∷ true ∷ false ∷ []

-- to stay is worth no more than the 1/3 that it leaves
goes : iterated (path_step (reach_problem Max waits goal_1 (true ∷ true ∷ false ∷ []))) 1 (first (1 ∷ 0 ∷ 0 ∷ [])) ≡
    Some (let r : Result Found Refusal = Ok (record { number = 0; policy = 1 ∷ 0 ∷ 0 ∷ []; values = ratio (pos 1) 3 ∷ of_int (pos 1) ∷ of_int (pos 0) ∷ [] }) in r)
unfolding equation_of eliminated divided_rest plus_equation evaluated written_add written_mul written_compare narrow narrow_ℚ ◌+ℚ◌ ◌*ℚ◌ neg_ℚ inv_ℚ ratio of_int gcd gcd_with_fuel
goes = refl

-- the goal can be avoided from 0
avoids : iterated (path_step (reach_problem Min waits goal_1 (true ∷ false ∷ true ∷ []))) 1 (first (0 ∷ 0 ∷ 0 ∷ [])) ≡
    Some (let r : Result Found Refusal = Ok (record { number = 0; policy = 0 ∷ 0 ∷ 0 ∷ []; values = of_int (pos 0) ∷ of_int (pos 1) ∷ of_int (pos 0) ∷ [] }) in r)
unfolding equation_of eliminated divided_rest plus_equation evaluated written_add written_mul written_compare narrow narrow_ℚ ◌+ℚ◌ ◌*ℚ◌ neg_ℚ inv_ℚ ratio of_int gcd gcd_with_fuel
avoids = refl

-- the goal 3 with probability n/d, and else 4, where it stays
abbrev tries : ℕ → ℕ → ℕ → Choice
tries n k d = choice (entry 3 (ratio (pos n) d) ∷ entry 4 (ratio (pos k) d) ∷ [])

abbrev goes_to : ℕ → Choice
goes_to t = choice (entry t (of_int (pos 1)) ∷ [])

-- state 2 tries with 1/2 or with 3/4; state 1 tries with 5/8 or goes to 2; state 0 tries with 11/16 or goes to 1
abbrev late : Mdp
late = bare (state (tries 11 5 16 ∷ goes_to 1 ∷ []) ∷ state (tries 5 3 8 ∷ goes_to 2 ∷ []) ∷ state (tries 1 1 2 ∷ tries 3 1 4 ∷ []) ∷ stays 3 ∷ stays 4 ∷ [])

-- each round changes one choice, from 2 back to 0
four_rounds :
    iterated (path_step (reach_problem Max late (false ∷ false ∷ false ∷ true ∷ false ∷ []) (true ∷ true ∷ true ∷ true ∷ false ∷ []))) 4 (first (0 ∷ 0 ∷ 0 ∷ 0 ∷ 0 ∷ [])) ≡
    Some (let r : Result Found Refusal = Ok (record {
      number = 3;
      policy = 1 ∷ 1 ∷ 1 ∷ 0 ∷ 0 ∷ [];
      values = ratio (pos 3) 4 ∷ ratio (pos 3) 4 ∷ ratio (pos 3) 4 ∷ of_int (pos 1) ∷ of_int (pos 0) ∷ [];
    }) in r)
unfolding equation_of eliminated divided_rest plus_equation evaluated written_add written_mul written_compare narrow narrow_ℚ ◌+ℚ◌ ◌*ℚ◌ neg_ℚ inv_ℚ ratio of_int gcd gcd_with_fuel
four_rounds = refl

-- so its last round is the third one after round 0, and that of a refusal is the round in which the term is
last_of_four : last_round (Ok (record { number = 3; policy = 1 ∷ 1 ∷ 1 ∷ 0 ∷ 0 ∷ []; values = [] })) ≡ 3
last_of_four = refl

last_of_refusal : last_round (Err (record { number = 2; policy = 0 ∷ []; place = evaluating (0 ∷ []) 0 })) ≡ 2
last_of_refusal = refl

-- an answer has one of each for each state, and a list that is too short is refused
each_of_three : HasOneEach waits (record { values = of_int (pos 0) ∷ of_int (pos 1) ∷ of_int (pos 0) ∷ []; choices = 0 ∷ 0 ∷ 0 ∷ []; ranks = 0 ∷ 0 ∷ 0 ∷ [] })
each_of_three = record { values = refl; choices = refl; ranks = refl }

no_third_rank : HasOneEach waits (record { values = of_int (pos 0) ∷ of_int (pos 1) ∷ of_int (pos 0) ∷ []; choices = 0 ∷ 0 ∷ 0 ∷ []; ranks = 0 ∷ 0 ∷ [] }) → ⊥
no_third_rank h = omega (arith, h.ranks)

-- Paths of rewards until a goal, computed, and what the checks of certificates say of their ends.
use Rattle.std.proofs.Common.{◌≡◌, ℕ, [], ◌∷◌, List, Bool, true, false, Some, None, Result, Ok, refl, arith, pos}
use Rattle.mdp_math.specs.{Gcd.{gcd, gcd_with_fuel}, Rational.{of_int, ratio, ◌+ℚ◌, ◌*ℚ◌, neg_ℚ, inv_ℚ}}
use Rattle.mdp_math.specs.Written.{written_add, written_mul, written_compare, narrow, narrow_ℚ}
use Rattle.mdp_spec.specs.Mdp.{Mdp, State, Choice}
use Rattle.mdp_spec.proofs.Small.{entry, number, state}
use Rattle.mdp_elim.specs.{Elimination.{divided_rest, plus_equation, eliminated, evaluated}, System.{equation_of}}
use Rattle.mdp_rows.specs.declared.dir.Dir.TheVariants.{Max, Min}
use Rattle.mdp_graph.specs.{Sure.{stays_and_falls}, Layers.{reached}, Reach.{may_step}, Sets.{marked}}
use Rattle.mdp_policy_iteration.specs.{Iteration.{iterated}, Path.{Found, Refusal, path_step}, Laws.{first}}
use Rattle.mdp_farkas.specs.{Verdict.{verdict_of}, Reward.{reward_checks}}
use Rattle.mdp_claims.specs.{declared.verdict.Fault.{Fault}, declared.verdict.Verdict.TheVariants.{Yes, No}, declared.rule.Rule.TheVariants.{FiniteRankFalls}}
use Rattle.mdp_reward.specs.{Problem.{may_take, is_transient, reward_problem}, Query.{split, unmarked, rewards_of, HasOneEach}}

-- a choice that leads to one state, with a reward
abbrev goes : ℕ → ℕ → Choice
goes t reward = record { row = entry t (number 1) ∷ []; rewards = number reward ∷ [] }

abbrev model_of : List State → Mdp
model_of states = record { names = [] ∷ []; labels = []; states = states }

-- ---- a loop of reward 0: state 0 stays for 0, or goes to the goal 1 for 3

abbrev loops : Mdp
loops = model_of (state (goes 0 0 ∷ goes 1 3 ∷ []) ∷ state (goes 1 0 ∷ []) ∷ [])

abbrev goal_1 : List Bool
goal_1 = false ∷ true ∷ []

-- the least reward can't stay: the loop leads to no smaller rank, so the start leaves by choice 1
loop_stays : stays_and_falls loops (true ∷ true ∷ []) (1 ∷ 0 ∷ []) 0 0 ≡ false
loop_stays = refl

leaves : stays_and_falls loops (true ∷ true ∷ []) (1 ∷ 0 ∷ []) 0 1 ≡ true
leaves = refl

-- and the path keeps to it: to stay first is worth no less than the 3 that follow
least_3 : iterated (path_step (reward_problem Min loops 0 goal_1 (true ∷ true ∷ []))) 1 (first (1 ∷ 0 ∷ [])) ≡
    Some (let e : Result Found Refusal = Ok (record { number = 0; policy = 1 ∷ 0 ∷ []; values = number 3 ∷ number 0 ∷ [] }) in e)
unfolding equation_of eliminated divided_rest plus_equation evaluated written_add written_mul written_compare narrow narrow_ℚ ◌+ℚ◌ ◌*ℚ◌ neg_ℚ inv_ℚ ratio of_int gcd gcd_with_fuel
least_3 = refl

-- its certificate holds; that the loop is worth 0 doesn't
least_holds : verdict_of (reward_checks Min loops 0 goal_1 (Some (number 3) ∷ Some (number 0) ∷ []) (1 ∷ 0 ∷ []) (1 ∷ 0 ∷ [])) ≡ Yes
unfolding written_add written_mul written_compare narrow narrow_ℚ ◌+ℚ◌ ◌*ℚ◌ neg_ℚ inv_ℚ ratio of_int gcd gcd_with_fuel
least_holds = refl

least_denied : verdict_of (reward_checks Min loops 0 goal_1 (Some (number 0) ∷ Some (number 0) ∷ []) (0 ∷ 0 ∷ []) (1 ∷ 0 ∷ []))
    ≡ No (let f : Fault = record { rule = FiniteRankFalls; state = Some 0; choice = Some 0 } in f)
unfolding written_add written_mul written_compare narrow narrow_ℚ ◌+ℚ◌ ◌*ℚ◌ neg_ℚ inv_ℚ ratio of_int gcd gcd_with_fuel
least_denied = refl

-- the greatest reward is infinite: state 0 can avoid the goal
greatest_infinite : rewards_of loops (unmarked loops (true ∷ false ∷ [])) (number 0 ∷ number 0 ∷ []) ≡ None ∷ Some (number 0) ∷ []
unfolding of_int
greatest_infinite = refl

greatest_holds : verdict_of (reward_checks Max loops 0 goal_1 (None ∷ Some (number 0) ∷ []) (0 ∷ 0 ∷ []) (0 ∷ 0 ∷ [])) ≡ Yes
unfolding written_add written_mul written_compare narrow narrow_ℚ ◌+ℚ◌ ◌*ℚ◌ neg_ℚ inv_ℚ ratio of_int gcd gcd_with_fuel
greatest_holds = refl

-- ---- finite by one choice, infinite by another: state 0 goes to 1, where it stays, or for 4 to the goal 2

abbrev parts : Mdp
parts = model_of (state (goes 1 0 ∷ goes 2 4 ∷ []) ∷ state (goes 1 0 ∷ []) ∷ state (goes 2 0 ∷ []) ∷ [])

abbrev goal_2 : List Bool
goal_2 = false ∷ false ∷ true ∷ []

abbrev finite_parts : List Bool
finite_parts = true ∷ false ∷ true ∷ []

-- for the least reward choice 0 is no candidate, although it earns less
no_candidate : may_take Min finite_parts (entry 1 (number 1) ∷ []) ≡ false
no_candidate = refl

least_4 : iterated (path_step (reward_problem Min parts 0 goal_2 finite_parts)) 1 (first (1 ∷ 0 ∷ 0 ∷ [])) ≡
    Some (let e : Result Found Refusal = Ok (record { number = 0; policy = 1 ∷ 0 ∷ 0 ∷ []; values = number 4 ∷ number 0 ∷ number 0 ∷ [] }) in e)
unfolding equation_of eliminated divided_rest plus_equation evaluated written_add written_mul written_compare narrow narrow_ℚ ◌+ℚ◌ ◌*ℚ◌ neg_ℚ inv_ℚ ratio of_int gcd gcd_with_fuel
least_4 = refl

least_parts : rewards_of parts finite_parts (number 4 ∷ number 0 ∷ number 0 ∷ []) ≡ Some (number 4) ∷ None ∷ Some (number 0) ∷ []
unfolding of_int
least_parts = refl

-- its ranks: along the policy at finite states, the round of state 1
ranks_of_parts : split parts finite_parts (1 ∷ 0 ∷ 0 ∷ []) (0 ∷ 1 ∷ 0 ∷ []) ≡ 1 ∷ 1 ∷ 0 ∷ []
ranks_of_parts = refl

-- for the greatest reward state 0 is infinite too: it comes to state 1, where the goal is avoided
comes_to_1 : reached (may_step parts goal_2) (marked (false ∷ true ∷ false ∷ [])) 1 0 ≡ true
unfolding reached
comes_to_1 = refl

-- ---- the goal's own reward isn't counted: state 0 stays with 1/2 and goes to the goal 1 with 1/2, for 1 each time; the goal stays for 5

abbrev tries : Mdp
tries = model_of (state (record { row = entry 0 (ratio (pos 1) 2) ∷ entry 1 (ratio (pos 1) 2) ∷ []; rewards = number 1 ∷ [] } ∷ []) ∷ state (goes 1 5 ∷ []) ∷ [])

no_goal : is_transient goal_1 (true ∷ true ∷ []) 1 ≡ false
no_goal = refl

two_tries : iterated (path_step (reward_problem Max tries 0 goal_1 (true ∷ true ∷ []))) 1 (first (0 ∷ 0 ∷ [])) ≡
    Some (let e : Result Found Refusal = Ok (record { number = 0; policy = 0 ∷ 0 ∷ []; values = number 2 ∷ number 0 ∷ [] }) in e)
unfolding equation_of eliminated divided_rest plus_equation evaluated written_add written_mul written_compare narrow narrow_ℚ ◌+ℚ◌ ◌*ℚ◌ neg_ℚ inv_ℚ ratio of_int gcd gcd_with_fuel
two_tries = refl

-- ---- both directions: state 1 goes to the goal 2 for 1 or for 2, and state 0 goes there for 2 or to 1 for 1

abbrev late : Mdp
late = model_of (state (goes 2 2 ∷ goes 1 1 ∷ []) ∷ state (goes 2 1 ∷ goes 2 2 ∷ []) ∷ state (goes 2 0 ∷ []) ∷ [])

-- the greatest: state 1 takes choice 1 first, and then state 0 goes there
greatest_late : iterated (path_step (reward_problem Max late 0 goal_2 (true ∷ true ∷ true ∷ []))) 3 (first (0 ∷ 0 ∷ 0 ∷ [])) ≡
    Some (let e : Result Found Refusal = Ok (record { number = 2; policy = 1 ∷ 1 ∷ 0 ∷ []; values = number 3 ∷ number 2 ∷ number 0 ∷ [] }) in e)
unfolding equation_of eliminated divided_rest plus_equation evaluated written_add written_mul written_compare narrow narrow_ℚ ◌+ℚ◌ ◌*ℚ◌ neg_ℚ inv_ℚ ratio of_int gcd gcd_with_fuel
greatest_late = refl

-- the least: choice 1 of state 0 is worth no less, and choice 0 stays
least_late : iterated (path_step (reward_problem Min late 0 goal_2 (true ∷ true ∷ true ∷ []))) 2 (first (0 ∷ 1 ∷ 0 ∷ [])) ≡
    Some (let e : Result Found Refusal = Ok (record { number = 1; policy = 0 ∷ 0 ∷ 0 ∷ []; values = number 2 ∷ number 1 ∷ number 0 ∷ [] }) in e)
unfolding equation_of eliminated divided_rest plus_equation evaluated written_add written_mul written_compare narrow narrow_ℚ ◌+ℚ◌ ◌*ℚ◌ neg_ℚ inv_ℚ ratio of_int gcd gcd_with_fuel
least_late = refl

-- ---- an answer has one of each for each state, and a list that is too short is refused

each_of_two : HasOneEach loops (record { values = Some (number 3) ∷ Some (number 0) ∷ []; choices = 1 ∷ 0 ∷ []; ranks = 1 ∷ 0 ∷ [] })
each_of_two = record { values = refl; choices = refl; ranks = refl }

no_second_rank : HasOneEach loops (record { values = Some (number 3) ∷ Some (number 0) ∷ []; choices = 1 ∷ 0 ∷ []; ranks = 1 ∷ [] }) → ⊥
no_second_rank h = omega (arith, h.ranks)

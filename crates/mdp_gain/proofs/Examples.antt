-- Small components, computed. In the first, state 0 stays and earns 1 or goes to state 1 and earns nothing; state 1 goes to state 0 and earns nothing or
-- stays and earns 3. Its best gain is 3, and its least gain 0. In the second, one state stays and earns -2, -1 or -3: its best gain is -1.
use Rattle.std.proofs.Common.{◌≡◌, ℕ, true, false, List, [], ◌∷◌, Option, Some, Ok, refl, pos, negsuc}
use Rattle.mdp_math.specs.{Gcd.{gcd, gcd_with_fuel}, Rational.{ℚ, of_int, ratio, ◌+ℚ◌, ◌*ℚ◌, neg_ℚ, inv_ℚ, lt_ℚ}}
use Rattle.mdp_math.specs.Written.{written_add, written_mul, written_compare, narrow, narrow_ℚ}
use Rattle.mdp_spec.specs.Mdp.{Choice, Mdp}
use Rattle.mdp_spec.proofs.Small.{state}
use Rattle.mdp_elim.specs.{Elimination.{divided_rest, plus_equation, eliminated, evaluated}, System.{equation_of}}
use Rattle.mdp_ends.specs.Ends.{count_of}
use Rattle.mdp_rows.specs.{declared.dir.Dir.TheVariants.{Max}, Better.{IsBetter}}
use Rattle.mdp_unichain.specs.{Component.{Component, is_state}, Part.{members, inner_component}, Written.{Values, written_values, written_improved}}
use Rattle.mdp_gain.specs.{Query.{Answer, answer_of}, Best.{bias_at, taken_at, worth_of}}

abbrev choice : ℕ → ℚ → Choice
choice t reward = record { row = record { target = t; prob = of_int (pos 1) } ∷ []; rewards = reward ∷ [] }

abbrev two_states : Mdp
two_states = record {
  names = [] ∷ [];
  labels = [];
  states =
      state (choice 0 (of_int (pos 1)) ∷ choice 1 (of_int (pos 0)) ∷ [])
      ∷ state (choice 0 (of_int (pos 0)) ∷ choice 1 (of_int (pos 3)) ∷ [])
      ∷ [];
}

abbrev both : List (Option ℕ)
both = Some 0 ∷ Some 0 ∷ []

both-counted : count_of both ≡ 1
both-counted = refl

both-members : members two_states both 0 ≡ 0 ∷ 1 ∷ []
both-members = refl

-- the numbers of the component are states, and no others
both-states : (is_state (inner_component Max two_states both 0 0) 0 ≡ true) × (is_state (inner_component Max two_states both 0 0) 1 ≡ true)
    × (is_state (inner_component Max two_states both 0 0) 2 ≡ false)
both-states = (refl, refl, refl)

-- ---- the greatest gain is 3: both states take choice 1

abbrev best : Answer
best = record { states = 0 ∷ 1 ∷ []; gain = of_int (pos 3); bias = of_int (negsuc 2) ∷ of_int (pos 0) ∷ []; choices = 1 ∷ 1 ∷ [] }

best-of_path :
    answer_of (members two_states both 0)
    (record { policy = 1 ∷ 1 ∷ []; reference = 1; values = record { gain = of_int (pos 3); bias = of_int (negsuc 2) ∷ of_int (pos 0) ∷ [] } })
    ≡ best
best-of_path = refl

best-taken : (taken_at best 0 ≡ 1) × (taken_at best 1 ≡ 1)
best-taken = (refl, refl)

-- the policy's choices earn the gain, as the bias sees it
best-earns : (worth_of two_states 0 (bias_at best) 0 1 ≡ best.gain +ℚ bias_at best 0) × (worth_of two_states 0 (bias_at best) 1 1 ≡ best.gain +ℚ bias_at best 1)
unfolding gcd gcd_with_fuel of_int ratio ◌+ℚ◌ ◌*ℚ◌
best-earns = (refl, refl)

-- the others earn less: -2 where the policy's earns 0, and -3 where it earns 3
best-others : (worth_of two_states 0 (bias_at best) 0 0 ≡ of_int (negsuc 1)) × (worth_of two_states 0 (bias_at best) 1 0 ≡ of_int (negsuc 2))
unfolding gcd gcd_with_fuel of_int ratio ◌+ℚ◌ ◌*ℚ◌
best-others = (refl, refl)

-- ---- the first step of its path: the start takes choice 0 at both states, stays at state 0 and earns 1

abbrev greatest_of_two : Component
greatest_of_two = inner_component Max two_states both 0 0

-- a start at state 1 is behind by the step that earns nothing
abbrev start_values : Values
start_values = record { gain = of_int (pos 1); bias = of_int (pos 0) ∷ of_int (negsuc 0) ∷ [] }

start-evaluated : written_values greatest_of_two (0 ∷ 0 ∷ []) 0 ≡ Ok start_values
unfolding equation_of eliminated divided_rest plus_equation evaluated written_add written_mul written_compare narrow narrow_ℚ ◌+ℚ◌ ◌*ℚ◌ neg_ℚ inv_ℚ ratio of_int gcd gcd_with_fuel
start-evaluated = refl

-- under these values it is better to stay at state 1, and at no other state is a choice better
start-improved : written_improved greatest_of_two (0 ∷ 0 ∷ []) start_values ≡ Ok (0 ∷ 1 ∷ [])
unfolding written_add written_mul written_compare narrow narrow_ℚ ◌+ℚ◌ ◌*ℚ◌ neg_ℚ ratio of_int gcd gcd_with_fuel
start-improved = refl

-- so state 0 goes there. The gain of this policy is 3, and better
next-evaluated : written_values greatest_of_two (1 ∷ 1 ∷ []) 1 ≡ Ok (record { gain = best.gain; bias = best.bias })
unfolding equation_of eliminated divided_rest plus_equation evaluated written_add written_mul written_compare narrow narrow_ℚ ◌+ℚ◌ ◌*ℚ◌ neg_ℚ inv_ℚ ratio of_int gcd gcd_with_fuel
next-evaluated = refl

next-better : IsBetter Max best.gain start_values.gain
unfolding lt_ℚ of_int
next-better = record { lt = tt }

-- ---- a step on which the gain stays and a bias rises: state 1 can only go to state 0, and earns nothing or 1

abbrev back : Mdp
back = record {
  names = [] ∷ [];
  labels = [];
  states =
      state (choice 0 (of_int (pos 1)) ∷ choice 1 (of_int (pos 0)) ∷ [])
      ∷ state (choice 0 (of_int (pos 0)) ∷ choice 0 (of_int (pos 1)) ∷ [])
      ∷ [];
}

abbrev greatest_of_back : Component
greatest_of_back = inner_component Max back both 0 0

back-evaluated : written_values greatest_of_back (0 ∷ 0 ∷ []) 0 ≡ Ok start_values
unfolding equation_of eliminated divided_rest plus_equation evaluated written_add written_mul written_compare narrow narrow_ℚ ◌+ℚ◌ ◌*ℚ◌ neg_ℚ inv_ℚ ratio of_int gcd gcd_with_fuel
back-evaluated = refl

-- state 1, which changes, is in no closed class of the improved policy
back-improved : written_improved greatest_of_back (0 ∷ 0 ∷ []) start_values ≡ Ok (0 ∷ 1 ∷ [])
unfolding written_add written_mul written_compare narrow narrow_ℚ ◌+ℚ◌ ◌*ℚ◌ neg_ℚ ratio of_int gcd gcd_with_fuel
back-improved = refl

-- so that is the next policy. Its gain is 1 again, and the bias of state 1 is 0 in place of -1
back-next : written_values greatest_of_back (0 ∷ 1 ∷ []) 0 ≡ Ok (record { gain = of_int (pos 1); bias = of_int (pos 0) ∷ of_int (pos 0) ∷ [] })
unfolding equation_of eliminated divided_rest plus_equation evaluated written_add written_mul written_compare narrow narrow_ℚ ◌+ℚ◌ ◌*ℚ◌ neg_ℚ inv_ℚ ratio of_int gcd gcd_with_fuel
back-next = refl

-- ---- the least gain is 0: each state goes to the other one

abbrev least : Answer
least = record { states = 0 ∷ 1 ∷ []; gain = of_int (pos 0); bias = of_int (pos 0) ∷ of_int (pos 0) ∷ []; choices = 1 ∷ 0 ∷ [] }

least-earns : (worth_of two_states 0 (bias_at least) 0 1 ≡ least.gain +ℚ bias_at least 0) × (worth_of two_states 0 (bias_at least) 1 0 ≡ least.gain +ℚ bias_at least 1)
unfolding gcd gcd_with_fuel of_int ratio ◌+ℚ◌ ◌*ℚ◌
least-earns = (refl, refl)

-- the others earn more
least-others : (worth_of two_states 0 (bias_at least) 0 0 ≡ of_int (pos 1)) × (worth_of two_states 0 (bias_at least) 1 1 ≡ of_int (pos 3))
unfolding gcd gcd_with_fuel of_int ratio ◌+ℚ◌ ◌*ℚ◌
least-others = (refl, refl)

-- ---- one state with three loops: the best gain is -1, by choice 1

abbrev loops : Mdp
loops = record {
  names = [] ∷ [];
  labels = [];
  states = state (choice 0 (of_int (negsuc 1)) ∷ choice 0 (of_int (negsuc 0)) ∷ choice 0 (of_int (negsuc 2)) ∷ []) ∷ [];
}

abbrev best_loop : Answer
best_loop = record { states = 0 ∷ []; gain = of_int (negsuc 0); bias = of_int (pos 0) ∷ []; choices = 1 ∷ [] }

best_loop-earns : worth_of loops 0 (bias_at best_loop) 0 1 ≡ best_loop.gain +ℚ bias_at best_loop 0
unfolding gcd gcd_with_fuel of_int ratio ◌+ℚ◌ ◌*ℚ◌
best_loop-earns = refl

-- -2 and -3 are less
best_loop-others : (worth_of loops 0 (bias_at best_loop) 0 0 ≡ of_int (negsuc 1)) × (worth_of loops 0 (bias_at best_loop) 0 2 ≡ of_int (negsuc 2))
unfolding gcd gcd_with_fuel of_int ratio ◌+ℚ◌ ◌*ℚ◌
best_loop-others = (refl, refl)

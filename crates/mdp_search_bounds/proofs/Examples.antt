-- The bounds that say nothing of a small model, computed, what the rules say of others, and what is near.
use Rattle.std.proofs.Common.{◌≡◌, ℕ, ◌∙◌, Bool, true, false, true≢false, List, [], ◌∷◌, Some, None, refl, sym, arith}
use Rattle.mdp_math.specs.{Gcd.{gcd, gcd_with_fuel}, Rational.{of_int, ratio, le_ℚ, lt_ℚ, neg_ℚ, ◌+ℚ◌, ◌*ℚ◌}}
use Rattle.mdp_math.specs.Written.{narrow, narrow_ℚ, written_add, written_mul}
use Rattle.mdp_math.proofs.Extremes.{le_of_test, test_of_le}
use Rattle.mdp_spec.specs.Mdp.{Mdp, Choice, Entry}
use Rattle.mdp_spec.proofs.Small.{number, over, minus, state}
use Rattle.mdp_rows.specs.{declared.dir.Dir.{Dir}, declared.dir.Dir.TheVariants.{Max, Min}}
use Rattle.mdp_farkas.specs.Verdict.{verdict_of}
use Rattle.mdp_claims.specs.{declared.verdict.Verdict.{Verdict}, declared.verdict.Verdict.TheVariants.{Yes, No}}
use Rattle.mdp_claims.specs.declared.rule.Rule.TheVariants.{BoundOnEachChoice, FiniteRankFalls}
use Rattle.mdp_bounds.specs.{Reward.{reward_bounds_checks}, Mean.{mean_bounds_checks}}
use Rattle.mdp_search_bounds.specs.{Extent.{IsExtreme}, Values.{zeros_of}, Near.{scale_of, IsNear, IsRewardNear, IsValueNear}}

-- a choice that leads to one state, with a reward
abbrev goes : ℕ → ℕ → Choice
goes t reward = record { row = (let e : Entry = record { target = t; prob = number 1 } in e) ∷ []; rewards = number reward ∷ [] }

-- state 0 stays for 0, or goes to the goal 1 for 3
abbrev loops : Mdp
loops = record { names = [] ∷ []; labels = []; states = state (goes 0 0 ∷ goes 1 3 ∷ []) ∷ state (goes 1 0 ∷ []) ∷ [] }

abbrev goal_1 : List Bool
goal_1 = false ∷ true ∷ []

zeros_at_goal : zeros_of 2 goal_1 ≡ None ∷ Some (number 0) ∷ []
zeros_at_goal = refl

-- ---- the reward until the goal, with bounds that are 0 at these states

abbrev bounded : Dir → List Bool → List ℕ → List ℕ → Verdict
bounded dir finite policy ranks = verdict_of (reward_bounds_checks dir loops 0 goal_1 (zeros_of 2 finite) (zeros_of 2 goal_1) policy ranks)

-- the greatest is infinite at state 0, where the goal can be avoided
greatest_infinite : bounded Max goal_1 (0 ∷ 0 ∷ []) (0 ∷ 0 ∷ []) ≡ Yes
unfolding gcd gcd_with_fuel ratio of_int le_ℚ lt_ℚ ◌+ℚ◌ ◌*ℚ◌ narrow narrow_ℚ written_add written_mul
greatest_infinite = refl

greatest_not_finite : bounded Max (true ∷ true ∷ []) (1 ∷ 0 ∷ []) (1 ∷ 0 ∷ []) ≡ No (record { rule = FiniteRankFalls; state = Some 0; choice = Some 0 })
unfolding gcd gcd_with_fuel ratio of_int le_ℚ lt_ℚ ◌+ℚ◌ ◌*ℚ◌ narrow narrow_ℚ written_add written_mul
greatest_not_finite = refl

-- the least is finite there, by choice 1
least_finite : bounded Min (true ∷ true ∷ []) (1 ∷ 0 ∷ []) (1 ∷ 0 ∷ []) ≡ Yes
unfolding gcd gcd_with_fuel ratio of_int le_ℚ lt_ℚ ◌+ℚ◌ ◌*ℚ◌ narrow narrow_ℚ written_add written_mul
least_finite = refl

-- ---- mean payoffs, with these lower and upper gains

abbrev paid : Dir → ℕ → ℕ → Verdict
paid dir low high =
    verdict_of (mean_bounds_checks dir loops 0 (number low ∷ number low ∷ []) (number high ∷ number high ∷ []) (number 0 ∷ number 0 ∷ []) (number 0 ∷ number 0 ∷ []) (number 0) (0 ∷ 0 ∷ []))

greatest_mean : paid Max 0 3 ≡ Yes
unfolding gcd gcd_with_fuel ratio of_int le_ℚ lt_ℚ neg_ℚ ◌+ℚ◌ ◌*ℚ◌ narrow narrow_ℚ written_add written_mul
greatest_mean = refl

least_mean : paid Min 0 3 ≡ Yes
unfolding gcd gcd_with_fuel ratio of_int le_ℚ lt_ℚ neg_ℚ ◌+ℚ◌ ◌*ℚ◌ narrow narrow_ℚ written_add written_mul
least_mean = refl

-- 2 is below the reward of a choice
too_small : paid Max 0 2 ≡ No (record { rule = BoundOnEachChoice; state = Some 0; choice = Some 1 })
unfolding gcd gcd_with_fuel ratio of_int le_ℚ lt_ℚ neg_ℚ ◌+ℚ◌ ◌*ℚ◌ narrow narrow_ℚ written_add written_mul
too_small = refl

three_above : le_ℚ (number 3) (number 2) ≡ false
unfolding gcd gcd_with_fuel ratio of_int le_ℚ
three_above = refl

not_greatest : IsExtreme Max loops 0 (number 2) → ⊥
not_greatest is = true≢false (sym (test_of_le _ _ (is.as_each 0 1 (omega arith) (omega arith))) ∙ three_above)

-- ---- how near two values come

near : IsNear 3 (over 999 1000) (number 1)
unfolding gcd gcd_with_fuel ratio of_int le_ℚ neg_ℚ ◌+ℚ◌ ◌*ℚ◌
near = le_of_test _ _ refl

too_far : le_ℚ (number 1) (over 999 1000 +ℚ over 1 10000 *ℚ scale_of (number 1)) ≡ false
unfolding gcd gcd_with_fuel ratio of_int le_ℚ neg_ℚ ◌+ℚ◌ ◌*ℚ◌
too_far = refl

not_near : IsNear 4 (over 999 1000) (number 1) → ⊥
not_near is = true≢false (sym (test_of_le _ _ is) ∙ too_far)

-- a hundredth of 200 is 2
near_large : IsNear 2 (number 198) (number 200)
unfolding gcd gcd_with_fuel ratio of_int le_ℚ neg_ℚ ◌+ℚ◌ ◌*ℚ◌
near_large = le_of_test _ _ refl

-- and so below 0
near_negative : IsNear 2 (minus 202 1) (minus 200 1)
unfolding gcd gcd_with_fuel ratio of_int le_ℚ neg_ℚ ◌+ℚ◌ ◌*ℚ◌
near_negative = le_of_test _ _ refl

too_far_negative : le_ℚ (minus 200 1) (minus 203 1 +ℚ over 1 100 *ℚ scale_of (minus 200 1)) ≡ false
unfolding gcd gcd_with_fuel ratio of_int le_ℚ neg_ℚ ◌+ℚ◌ ◌*ℚ◌
too_far_negative = refl

not_near_negative : IsNear 2 (minus 203 1) (minus 200 1) → ⊥
not_near_negative is = true≢false (sym (test_of_le _ _ is) ∙ too_far_negative)

-- 0 and 1 are near to no digit
nothing_said : le_ℚ (number 1) (number 0 +ℚ over 1 10 *ℚ scale_of (number 1)) ≡ false
unfolding gcd gcd_with_fuel ratio of_int le_ℚ neg_ℚ ◌+ℚ◌ ◌*ℚ◌
nothing_said = refl

not_near_trivial : IsNear 1 (number 0) (number 1) → ⊥
not_near_trivial is = true≢false (sym (test_of_le _ _ is) ∙ nothing_said)

-- infinite rewards are near to each other, and to no finite one; a discounted reward that is missing is near to nothing
both_infinite : IsRewardNear 5 None None
both_infinite = tt

one_infinite : IsRewardNear 5 (Some (number 0)) None → ⊥
one_infinite is = is

both_missing : IsValueNear 5 None None → ⊥
both_missing is = is

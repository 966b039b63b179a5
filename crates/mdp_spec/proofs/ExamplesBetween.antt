-- Lower and upper values that meet the rules, where no value is both: so the exact values lie between them; and values that don't.
use Rattle.std.proofs.Common.{ℕ, Bool, true, false, List, [], ◌∷◌, Option, Some, None, pos, arith}
use Rattle.mdp_math.specs.{Gcd.{gcd, gcd_with_fuel}, Rational.{ℚ, of_int, ratio, ◌+ℚ◌, ◌*ℚ◌, le_ℚ, lt_ℚ, ◌≤ℚ◌}}
use Rattle.mdp_spec.specs.{Between.{ReachMaxBetween, ReachMinBetween, RewardMaxBetween, RewardMinBetween, MeanMaxBetween}, BetweenRules.{MeetsReachMaxBetween}}
use Rattle.mdp_spec.proofs.{Reach.{reach_max_between_of_rules, reach_max_lies, reach_min_lies}, Unique.{reward_max_lies, reward_min_lies, mean_max_lies}}
use Rattle.mdp_spec.proofs.Examples.{three, goals}
use Rattle.mdp_spec.proofs.ExamplesBounds.{chances, goes_on, goes_on_rules, three_model, greatest_chances, three_max, least_chances, loops, three_min}
use Rattle.mdp_spec.proofs.ExamplesRules.{trip, trip_model, most, pays, trip_most, least, tries, trip_least, job, job_model, gains, job_gains}
use Rattle.mdp_spec.proofs.Small.{nought, number, third}

-- ---- the greatest probability from state 0, 1/3, lies between 1/4 and 1/2

abbrev quarter : List ℚ
quarter = chances (ratio (pos 1) 4)

abbrev half : List ℚ
half = chances (ratio (pos 1) 2)

between_rules : MeetsReachMaxBetween three goals quarter half goes_on (1 ∷ 0 ∷ 0 ∷ [])
unfolding gcd gcd_with_fuel ratio of_int ◌+ℚ◌ ◌*ℚ◌ le_ℚ lt_ℚ
between_rules = goes_on_rules (ratio (pos 1) 4) (ratio (pos 1) 2) (record { lt = tt }) (record { le = tt }) (record { le = tt }) (record { le = tt }) (record { le = tt })

three_between : ReachMaxBetween three goals quarter half goes_on
three_between = reach_max_between_of_rules three goals quarter half goes_on (1 ∷ 0 ∷ 0 ∷ []) three_model between_rules

-- 1/2 is no lower value, and 1/4 no upper one
half_no_lower : (upper : List ℚ) (policy : List ℕ) → ReachMaxBetween three goals half upper policy → ⊥
unfolding gcd gcd_with_fuel ratio of_int le_ℚ
half_no_lower upper policy b =
    let h : ratio (pos 1) 2 ≤ℚ third = (reach_max_lies three goals three_model half upper greatest_chances policy goes_on 0 b three_max (omega arith)).0 in h.le

quarter_no_upper : (lower : List ℚ) (policy : List ℕ) → ReachMaxBetween three goals lower quarter policy → ⊥
unfolding gcd gcd_with_fuel ratio of_int le_ℚ
quarter_no_upper lower policy b =
    let h : third ≤ℚ ratio (pos 1) 4 = (reach_max_lies three goals three_model lower quarter greatest_chances policy goes_on 0 b three_max (omega arith)).1 in h.le

-- the least probability is 0, so 1/4 is no lower value of it
quarter_no_least : (upper : List ℚ) (policy : List ℕ) → ReachMinBetween three goals quarter upper policy → ⊥
unfolding gcd gcd_with_fuel ratio of_int le_ℚ
quarter_no_least upper policy b =
    let h : ratio (pos 1) 4 ≤ℚ nought = (reach_min_lies three goals three_model quarter upper least_chances policy loops 0 b three_min (omega arith)).0 in h.le

abbrev trip_goals : List Bool
trip_goals = false ∷ true ∷ false ∷ false ∷ []

-- ---- rewards and gains: of a trip whose greatest reward is 3, and the least 2, and of a job whose greatest gain is 1

four_no_lower : (upper : List (Option ℚ)) (policy : List ℕ) → RewardMaxBetween trip 0 trip_goals policy (Some (number 4) ∷ Some (number 0) ∷ None ∷ None ∷ []) upper → ⊥
unfolding of_int le_ℚ
four_no_lower upper policy b =
    let h : number 4 ≤ℚ number 3 = (reward_max_lies trip 0 trip_goals trip_model (Some (number 4) ∷ Some (number 0) ∷ None ∷ None ∷ []) upper most policy pays 0 b trip_most (omega arith)).0 in h.le

-- a policy waits for ever, so no finite value is an upper one
no_finite_upper : (lower : List (Option ℚ)) (policy : List ℕ) (x : ℚ) → RewardMaxBetween trip 0 trip_goals policy lower (Some (number 3) ∷ Some (number 0) ∷ Some x ∷ None ∷ []) → ⊥
no_finite_upper lower policy x b =
    (reward_max_lies trip 0 trip_goals trip_model lower (Some (number 3) ∷ Some (number 0) ∷ Some x ∷ None ∷ []) most policy pays 2 b trip_most (omega arith)).1

one_no_upper : (lower : List (Option ℚ)) (policy : List ℕ) → RewardMinBetween trip 0 trip_goals policy lower (Some (number 1) ∷ Some (number 0) ∷ Some (number 1) ∷ None ∷ []) → ⊥
unfolding of_int le_ℚ
one_no_upper lower policy b =
    let h : number 2 ≤ℚ number 1 = (reward_min_lies trip 0 trip_goals trip_model lower (Some (number 1) ∷ Some (number 0) ∷ Some (number 1) ∷ None ∷ []) least policy tries 0 b trip_least (omega arith)).1 in
    h.le

two_no_lower : (upper : List ℚ) (policy : List ℕ) (spread : ℚ) → MeanMaxBetween job 0 (number 2 ∷ number 0 ∷ []) upper spread policy → ⊥
unfolding of_int le_ℚ
two_no_lower upper policy spread b =
    let h : number 2 ≤ℚ number 1 = (mean_max_lies job 0 (number 2 ∷ number 0 ∷ []) upper gains spread (number 4) policy (0 ∷ 0 ∷ []) job_model b job_gains 0 (omega arith)).0 in h.le

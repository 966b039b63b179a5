-- Verdicts on rewards, computed, on four models: `wait` waits at 0 for nothing or goes to the goal 1 for 3; `trap` goes from 0 to 1, which is left
-- nowhere, or to the goal 2 for 4; `arrived` has a goal alone; `loss` goes on to a goal that earns -1.
use Rattle.std.proofs.Common.{◌≡◌, ℕ, ◌+◌, ◌^◌, ◌∙◌, Bool, true, false, true≢false, List, [], ◌∷◌, refl, sym, pos, negsuc, Option, Some, None, arith}
use Rattle.mdp_math.specs.{Gcd.{gcd, gcd_with_fuel}, Rational.{ℚ, of_int, ratio, le_ℚ, ◌+ℚ◌, ◌*ℚ◌}}
use Rattle.mdp_math.specs.Written.{narrow, narrow_ℚ, written_add, written_mul, written_compare}
use Rattle.mdp_math.proofs.{Extremes.{le_of_test, test_of_le}, Tables.{AreEqual}}
use Rattle.mdp_spec.specs.{Mdp.{Choice, Mdp}, RewardRules.{backup}}
use Rattle.mdp_spec.proofs.Small.{model, number, state}
use Rattle.mdp_farkas.specs.{Verdict.{verdict_of}, Reward.{reward_checks}, Says.{RewardSays}}
use Rattle.mdp_farkas.proofs.RewardTelling.{reward_refuted}
use Rattle.mdp_rows.specs.{declared.dir.Dir.{Dir}, declared.dir.Dir.TheVariants.{Max, Min}}
use Rattle.mdp_claims.specs.{declared.verdict.Verdict.{Verdict}, declared.verdict.Verdict.TheVariants.{Yes, No, Wide}}
use Rattle.mdp_claims.specs.declared.rule.Rule.TheVariants.{ChoiceExists, EachChoiceMisses, FiniteRankFalls, FiniteTargets, PolicyMisses, RewardNotNegative}
use Rattle.mdp_claims.specs.{declared.rule.Rule.TheVariants.{RewardOnEachChoice, RewardOnPolicy, RewardValue}, declared.rule.Rule.{Rule}}

abbrev value : ℕ → Option ℚ
value n = Some (number n)

abbrev to : ℕ → ℚ → Choice
to t reward = record { row = record { target = t; prob = number 1 } ∷ []; rewards = reward ∷ [] }

abbrev wait : Mdp
wait = model (state (to 0 (number 0) ∷ to 1 (number 3) ∷ []) ∷ state (to 1 (number 0) ∷ []) ∷ [])

abbrev trap : Mdp
trap = model (state (to 1 (number 0) ∷ to 2 (number 4) ∷ []) ∷ state (to 1 (number 0) ∷ []) ∷ state (to 2 (number 0) ∷ []) ∷ [])

abbrev arrived : Mdp
arrived = model (state (to 0 (number 0) ∷ []) ∷ [])

abbrev loss : Mdp
loss = model (state (to 1 (number 0) ∷ []) ∷ state (to 1 (of_int (negsuc 0)) ∷ []) ∷ [])

abbrev second : List Bool
second = false ∷ true ∷ []

abbrev third : List Bool
third = false ∷ false ∷ true ∷ []

abbrev fault : Rule → ℕ → Option ℕ → Verdict
fault rule s choice = No (record { rule = rule; state = Some s; choice = choice })

-- the verdict on what is said of state 0 of `wait`: its value, choice and rank
abbrev waiting : Dir → Option ℚ → ℕ → ℕ → Verdict
waiting dir x choice rank = verdict_of (reward_checks dir wait 0 second (x ∷ value 0 ∷ []) (choice ∷ 0 ∷ []) (rank ∷ 0 ∷ []))

-- the least reward is 3, and there is no greatest, since a policy may wait for ever
least : waiting Min (value 3) 1 1 ≡ Yes
unfolding gcd gcd_with_fuel ratio of_int ◌+ℚ◌ ◌*ℚ◌ narrow narrow_ℚ written_add written_mul written_compare
least = refl

greatest : waiting Max None 0 0 ≡ Yes
unfolding gcd gcd_with_fuel ratio of_int ◌+ℚ◌ ◌*ℚ◌ narrow narrow_ℚ written_add written_mul written_compare
greatest = refl

no_such_choice : waiting Min (value 3) 2 1 ≡ fault ChoiceExists 0 (Some 2)
unfolding gcd gcd_with_fuel ratio of_int ◌+ℚ◌ ◌*ℚ◌ narrow narrow_ℚ written_add written_mul written_compare
no_such_choice = refl

too_great : waiting Min (value 4) 1 1 ≡ fault RewardOnEachChoice 0 (Some 1)
unfolding gcd gcd_with_fuel ratio of_int ◌+ℚ◌ ◌*ℚ◌ narrow narrow_ℚ written_add written_mul written_compare
too_great = refl

too_small : waiting Min (value 2) 1 1 ≡ fault RewardOnPolicy 0 (Some 1)
unfolding gcd gcd_with_fuel ratio of_int ◌+ℚ◌ ◌*ℚ◌ narrow narrow_ℚ written_add written_mul written_compare
too_small = refl

-- 3 meets Bellman's equation for the greatest reward too, but the rank doesn't fall along the loop
waits_for_ever : waiting Max (value 3) 1 1 ≡ fault FiniteRankFalls 0 (Some 0)
unfolding gcd gcd_with_fuel ratio of_int ◌+ℚ◌ ◌*ℚ◌ narrow narrow_ℚ written_add written_mul written_compare
waits_for_ever = refl

-- a policy that goes to the goal doesn't miss it, and not each policy does
doesnt_miss : waiting Max None 1 0 ≡ fault PolicyMisses 0 (Some 1)
unfolding gcd gcd_with_fuel ratio of_int ◌+ℚ◌ ◌*ℚ◌ narrow narrow_ℚ written_add written_mul written_compare
doesnt_miss = refl

may_arrive : waiting Min None 0 1 ≡ fault EachChoiceMisses 0 (Some 1)
unfolding gcd gcd_with_fuel ratio of_int ◌+ℚ◌ ◌*ℚ◌ narrow narrow_ℚ written_add written_mul written_compare
may_arrive = refl

reward_verdicts : AreEqual (
    -- what is left nowhere has no finite reward, and the least reward at 0 leads past it
    (verdict_of (reward_checks Min trap 0 third (value 4 ∷ None ∷ value 0 ∷ []) (1 ∷ 0 ∷ 0 ∷ []) (1 ∷ 1 ∷ 0 ∷ [])), Yes) ∷
    (verdict_of (reward_checks Min trap 0 third (value 4 ∷ None ∷ value 0 ∷ []) (0 ∷ 0 ∷ 0 ∷ []) (1 ∷ 1 ∷ 0 ∷ [])), fault FiniteTargets 0 (Some 0)) ∷  -- into the trap
    -- for the greatest reward no choice may lead there
    (verdict_of (reward_checks Max trap 0 third (value 4 ∷ None ∷ value 0 ∷ []) (1 ∷ 0 ∷ 0 ∷ []) (1 ∷ 0 ∷ 0 ∷ [])), fault FiniteTargets 0 (Some 0)) ∷
    (verdict_of (reward_checks Max trap 0 third (None ∷ None ∷ value 0 ∷ []) (0 ∷ 0 ∷ 0 ∷ []) (1 ∷ 0 ∷ 0 ∷ [])), Yes) ∷  -- trapped
    -- a goal has the value 0 and rank 0
    (verdict_of (reward_checks Max arrived 0 (true ∷ []) (value 1 ∷ []) (0 ∷ []) (0 ∷ [])), fault RewardValue 0 None) ∷
    (verdict_of (reward_checks Max arrived 0 (true ∷ []) (None ∷ []) (0 ∷ []) (0 ∷ [])), fault RewardValue 0 None) ∷  -- infinite goal
    (verdict_of (reward_checks Max arrived 0 (true ∷ []) (value 0 ∷ []) (0 ∷ []) (1 ∷ [])), fault RewardValue 0 None) ∷  -- goal rank
    (verdict_of (reward_checks Max arrived 0 (false ∷ []) (Some (of_int (negsuc 0)) ∷ []) (0 ∷ []) (0 ∷ [])), fault RewardValue 0 None) ∷  -- below zero
    -- a reward below 0, though no path earns it
    (verdict_of (reward_checks Max loss 0 second (value 0 ∷ value 0 ∷ []) (0 ∷ 0 ∷ []) (1 ∷ 0 ∷ [])), fault RewardNotNegative 1 (Some 0)) ∷
    -- a sum has the denominator 3(2^126 + 1), which is past width: its place is said, before any rule that is false
    (verdict_of (reward_checks Max (model (state (to 0 (ratio (pos 1) 3) ∷ []) ∷ [])) 0 (false ∷ []) (Some (ratio (pos 1) (2 ^ 126 + 1)) ∷ []) (0 ∷ []) (0 ∷ [])), Wide (Some 0) (Some 0)) ∷
    []
    )
unfolding gcd gcd_with_fuel ratio of_int ◌+ℚ◌ ◌*ℚ◌ narrow narrow_ℚ written_add written_mul written_compare
reward_verdicts = refl

-- ---- what the rules say, in exact numbers

-- of state 0 of `wait`, where the policy goes to the goal
abbrev waiting_says : Dir → Option ℚ → ℕ → Rule → Option ℕ → Option ℕ → Type 0
waiting_says dir x rank = RewardSays dir wait 0 second (x ∷ value 0 ∷ []) (1 ∷ 0 ∷ []) (rank ∷ 0 ∷ [])

-- 4 isn't at most what going to the goal earns
four_refuted : waiting_says Min (value 4) 1 RewardOnEachChoice (Some 0) (Some 1) → ⊥
four_refuted = reward_refuted Min wait 0 second (value 4 ∷ value 0 ∷ []) (1 ∷ 0 ∷ []) (1 ∷ 0 ∷ []) (record { rule = RewardOnEachChoice; state = Some 0; choice = Some 1 }) too_great

abbrev at_least_earned : ℕ → Bool
at_least_earned x = le_ℚ (backup wait 0 0 1 (number x ∷ number 0 ∷ [])) (number x)

three_passes : at_least_earned 3 ≡ true
unfolding gcd gcd_with_fuel ratio of_int le_ℚ ◌+ℚ◌ ◌*ℚ◌
three_passes = refl

two_fails : at_least_earned 2 ≡ false
unfolding gcd gcd_with_fuel ratio of_int le_ℚ ◌+ℚ◌ ◌*ℚ◌
two_fails = refl

-- 3 is at least what the policy's choice earns, and 2 isn't
three_said : waiting_says Min (value 3) 1 RewardOnPolicy (Some 0) (Some 1)
three_said = λ t e. le_of_test _ _ three_passes

two_refused : waiting_says Min (value 2) 1 RewardOnPolicy (Some 0) (Some 1) → ⊥
two_refused says = true≢false (sym (test_of_le _ _ (says (omega arith, refl, refl) refl)) ∙ two_fails)

-- the rank doesn't fall along the loop, which counts for the greatest reward alone
loop_refuted : waiting_says Max (value 3) 1 FiniteRankFalls (Some 0) (Some 0) → ⊥
loop_refuted = reward_refuted Max wait 0 second (value 3 ∷ value 0 ∷ []) (1 ∷ 0 ∷ []) (1 ∷ 0 ∷ []) (record { rule = FiniteRankFalls; state = Some 0; choice = Some 0 }) waits_for_ever

loop_not_taken : waiting_says Min (value 3) 1 FiniteRankFalls (Some 0) (Some 0)
loop_not_taken = λ t e. absurd (omega arith)

-- a policy that goes to the goal doesn't miss it
arrives_refuted : waiting_says Max None 0 PolicyMisses (Some 0) (Some 1) → ⊥
arrives_refuted = reward_refuted Max wait 0 second (None ∷ value 0 ∷ []) (1 ∷ 0 ∷ []) (0 ∷ 0 ∷ []) (record { rule = PolicyMisses; state = Some 0; choice = Some 1 }) doesnt_miss

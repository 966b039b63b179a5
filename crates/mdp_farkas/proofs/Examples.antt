-- Verdicts, computed, on the model `split`.
use Rattle.std.proofs.Common.{◌≡◌, ℕ, ◌+◌, ◌^◌, ◌∙◌, Bool, true, false, true≢false, [], ◌∷◌, refl, sym, pos, Option, Some, None, arith}
use Rattle.mdp_math.specs.{Gcd.{gcd, gcd_with_fuel}, Rational.{ℚ, of_int, ratio, le_ℚ, lt_ℚ, ◌+ℚ◌, ◌*ℚ◌}}
use Rattle.mdp_math.specs.Written.{narrow, narrow_ℚ, written_add, written_mul, written_compare}
use Rattle.mdp_math.proofs.{Extremes.{le_of_test, test_of_le}, Tables.{AreEqual}}
use Rattle.mdp_spec.specs.{Mdp.{row_at}, Row.{row_sum}}
use Rattle.mdp_spec.proofs.Small.{nought, one, third, split, split_goals}
use Rattle.mdp_farkas.specs.{Verdict.{verdict_of}, Upper.{upper_checks}, Reach.{reach_checks}, Says.{UpperSays, ReachSays}}
use Rattle.mdp_farkas.proofs.ReachTelling.{upper_refuted, reach_refuted}
use Rattle.mdp_rows.specs.declared.dir.Dir.TheVariants.{Max, Min}
use Rattle.mdp_claims.specs.{declared.verdict.Verdict.{Verdict}, declared.verdict.Verdict.TheVariants.{Yes, No, Wide}}
use Rattle.mdp_claims.specs.declared.rule.Rule.TheVariants.{BiasOnPolicy, ChoiceExists, GoalValue, Probability, RankFalls, RankZero, ValueOnEachChoice}
use Rattle.mdp_claims.specs.{declared.rule.Rule.TheVariants.{ValueOnPolicy}, declared.rule.Rule.{Rule}}

abbrev fault : Rule → ℕ → Option ℕ → Verdict
fault rule state choice = No (record { rule = rule; state = Some state; choice = choice })

-- the loop alone carries the value 1 at state 0, so its rank doesn't fall
loop_alone : verdict_of (reach_checks Max split split_goals (one ∷ one ∷ nought ∷ []) (0 ∷ 0 ∷ 0 ∷ []) (1 ∷ 0 ∷ 0 ∷ [])) ≡ fault RankFalls 0 (Some 0)
unfolding gcd gcd_with_fuel ratio of_int lt_ℚ ◌+ℚ◌ ◌*ℚ◌ narrow narrow_ℚ written_add written_mul written_compare
loop_alone = refl

reach_verdicts : AreEqual (
    (verdict_of (reach_checks Max split split_goals (third ∷ one ∷ nought ∷ []) (1 ∷ 0 ∷ 0 ∷ []) (1 ∷ 0 ∷ 0 ∷ [])), Yes) ∷  -- greatest
    -- the second choice would do better
    (verdict_of (reach_checks Max split split_goals (nought ∷ one ∷ nought ∷ []) (0 ∷ 0 ∷ 0 ∷ []) (0 ∷ 0 ∷ 0 ∷ [])), fault ValueOnEachChoice 0 (Some 1)) ∷
    []
    )
unfolding gcd gcd_with_fuel ratio of_int lt_ℚ ◌+ℚ◌ ◌*ℚ◌ narrow narrow_ℚ written_add written_mul written_compare
reach_verdicts = refl

-- for the least probability the loop is the answer
least : verdict_of (reach_checks Min split split_goals (nought ∷ one ∷ nought ∷ []) (0 ∷ 0 ∷ 0 ∷ []) (0 ∷ 0 ∷ 0 ∷ [])) ≡ Yes
unfolding gcd gcd_with_fuel ratio of_int lt_ℚ ◌+ℚ◌ ◌*ℚ◌ narrow narrow_ℚ written_add written_mul written_compare
least = refl

-- a policy that takes a choice that the state has not
no_such_choice : verdict_of (reach_checks Max split split_goals (third ∷ one ∷ nought ∷ []) (1 ∷ 1 ∷ 0 ∷ []) (1 ∷ 0 ∷ 0 ∷ [])) ≡ fault ChoiceExists 1 (Some 1)
unfolding gcd gcd_with_fuel ratio of_int lt_ℚ ◌+ℚ◌ ◌*ℚ◌ narrow narrow_ℚ written_add written_mul written_compare
no_such_choice = refl

-- a policy that falls short of the value
short : verdict_of (reach_checks Max split split_goals (ratio (pos 1) 2 ∷ one ∷ nought ∷ []) (1 ∷ 0 ∷ 0 ∷ []) (1 ∷ 0 ∷ 0 ∷ [])) ≡ fault ValueOnPolicy 0 (Some 1)
unfolding gcd gcd_with_fuel ratio of_int lt_ℚ ◌+ℚ◌ ◌*ℚ◌ narrow narrow_ℚ written_add written_mul written_compare
short = refl

-- a goal has rank 0
goal_rank : verdict_of (reach_checks Max split split_goals (third ∷ one ∷ nought ∷ []) (1 ∷ 0 ∷ 0 ∷ []) (2 ∷ 1 ∷ 0 ∷ [])) ≡ fault RankZero 1 None
unfolding gcd gcd_with_fuel ratio of_int lt_ℚ ◌+ℚ◌ ◌*ℚ◌ narrow narrow_ℚ written_add written_mul written_compare
goal_rank = refl

-- upper bounds
upper : verdict_of (upper_checks split split_goals (one ∷ one ∷ nought ∷ [])) ≡ Yes
unfolding gcd gcd_with_fuel ratio of_int ◌+ℚ◌ ◌*ℚ◌ narrow narrow_ℚ written_add written_mul written_compare
upper = refl

no_upper : verdict_of (upper_checks split split_goals (ratio (pos 1) 4 ∷ one ∷ nought ∷ [])) ≡ fault ValueOnEachChoice 0 (Some 1)
unfolding gcd gcd_with_fuel ratio of_int ◌+ℚ◌ ◌*ℚ◌ narrow narrow_ℚ written_add written_mul written_compare
no_upper = refl

upper_verdicts : AreEqual (
    (verdict_of (upper_checks split split_goals (one ∷ third ∷ nought ∷ [])), fault GoalValue 1 None) ∷  -- goal below one
    (verdict_of (upper_checks split split_goals (ratio (pos 3) 2 ∷ one ∷ nought ∷ [])), fault Probability 0 None) ∷  -- above one
    -- a product of the row has the denominator 3(2^126 + 1), which is past width: its place is said, before any rule that is false
    (verdict_of (upper_checks split split_goals (one ∷ one ∷ ratio (pos 1) (2 ^ 126 + 1) ∷ [])), Wide (Some 0) (Some 1)) ∷
    []
    )
unfolding gcd gcd_with_fuel ratio of_int ◌+ℚ◌ ◌*ℚ◌ narrow narrow_ℚ written_add written_mul written_compare
upper_verdicts = refl

-- ---- what the rules say, in exact numbers

-- at state 0 the value 1/3 is at least the sum over the row of its second choice, and 1/4 isn't
abbrev upper_says : ℚ → Rule → Option ℕ → Option ℕ → Type 0
upper_says x = UpperSays split split_goals (x ∷ one ∷ nought ∷ [])

abbrev at_least_row : ℚ → Bool
at_least_row x = le_ℚ (row_sum (row_at split 0 1) (x ∷ one ∷ nought ∷ [])) x

third_passes : at_least_row third ≡ true
unfolding gcd gcd_with_fuel ratio of_int le_ℚ ◌+ℚ◌ ◌*ℚ◌
third_passes = refl

quarter_fails : at_least_row (ratio (pos 1) 4) ≡ false
unfolding gcd gcd_with_fuel ratio of_int le_ℚ ◌+ℚ◌ ◌*ℚ◌
quarter_fails = refl

third_said : upper_says third ValueOnEachChoice (Some 0) (Some 1)
third_said = λ l g i. le_of_test _ _ third_passes

quarter_refused : upper_says (ratio (pos 1) 4) ValueOnEachChoice (Some 0) (Some 1) → ⊥
quarter_refused says = true≢false (sym (test_of_le _ _ (says (omega arith) refl (omega arith))) ∙ quarter_fails)

-- which is what the no says
quarter_refuted : upper_says (ratio (pos 1) 4) ValueOnEachChoice (Some 0) (Some 1) → ⊥
quarter_refuted = upper_refuted split split_goals (ratio (pos 1) 4 ∷ one ∷ nought ∷ []) (record { rule = ValueOnEachChoice; state = Some 0; choice = Some 1 }) no_upper

-- of a policy that takes the loop at state 0, with the value 1
abbrev loop_says : Rule → Option ℕ → Option ℕ → Type 0
loop_says = ReachSays Max split split_goals (one ∷ one ∷ nought ∷ []) (0 ∷ 0 ∷ 0 ∷ []) (1 ∷ 0 ∷ 0 ∷ [])

loop_refuted : loop_says RankFalls (Some 0) (Some 0) → ⊥
loop_refuted = reach_refuted Max split split_goals (one ∷ one ∷ nought ∷ []) (0 ∷ 0 ∷ 0 ∷ []) (1 ∷ 0 ∷ 0 ∷ []) (record { rule = RankFalls; state = Some 0; choice = Some 0 }) loop_alone

-- nothing is said of a choice that the policy doesn't take, of a state that isn't there, or by a rule of mean payoffs
not_taken : loop_says RankFalls (Some 0) (Some 1)
not_taken = λ l g p e. absurd (omega arith)

no_state : loop_says Probability (Some 3) None
no_state = λ l. absurd (omega arith)

no_rule_of_reach : loop_says BiasOnPolicy (Some 0) (Some 0)
no_rule_of_reach = tt

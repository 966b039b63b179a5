-- Verdicts on mean payoffs, computed, on four models: `turns` goes to and fro between 0 and 1 and earns 1 at 0; `gamble` stays at 0 for 1 in
-- each step, or moves to 1, which earns 4 in each step, or to 2, which earns nothing, with 1/2 each; `leave` earns 1 in each step, and 5 once
-- on the way from 0 to 1; `pay` loses 1 in each step at 0, or 5 once on the way to 1, which loses 1/2 in each step.
use Rattle.std.proofs.Common.{◌≡◌, ℕ, ◌+◌, ◌^◌, ◌∙◌, Bool, true, false, true≢false, List, [], ◌∷◌, refl, sym, Option, Some, None, arith}
use Rattle.mdp_math.specs.{Gcd.{gcd, gcd_with_fuel}, Rational.{ℚ, of_int, ratio, le_ℚ, neg_ℚ, ◌+ℚ◌, ◌*ℚ◌}}
use Rattle.mdp_math.specs.Written.{narrow, narrow_ℚ, written_add, written_mul, written_compare}
use Rattle.mdp_math.proofs.{Extremes.{le_of_test, test_of_le}, Tables.{AreEqual}}
use Rattle.mdp_spec.specs.{Mdp.{Mdp, row_at}, Row.{row_sum}}
use Rattle.mdp_spec.proofs.Small.{gamble, leave, minus, model, number, over, pay, state, to}
use Rattle.mdp_farkas.specs.{Verdict.{verdict_of}, Mean.{mean_checks}, Says.{MeanSays}}
use Rattle.mdp_farkas.proofs.MeanTelling.{mean_refuted}
use Rattle.mdp_rows.specs.declared.dir.Dir.TheVariants.{Max, Min}
use Rattle.mdp_claims.specs.{declared.verdict.Verdict.{Verdict}, declared.verdict.Verdict.TheVariants.{Yes, No, Wide}}
use Rattle.mdp_claims.specs.declared.rule.Rule.TheVariants.{BiasOnPolicy, BoundOnEachChoice, ChoiceExists, GainOnEachChoice, GainOnPolicy, SpreadIsGreatest}
use Rattle.mdp_claims.specs.declared.rule.Rule.{Rule}

abbrev turns : Mdp
turns = model (state (to 1 (number 1) ∷ []) ∷ state (to 0 (number 0) ∷ []) ∷ [])

-- two states that are left nowhere
abbrev apart : Mdp
apart = model (state (to 0 (number 0) ∷ []) ∷ state (to 1 (number 0) ∷ []) ∷ [])

abbrev two : ℚ → ℚ → List ℚ
two x y = x ∷ y ∷ []

abbrev fault : Rule → Option ℕ → Option ℕ → Verdict
fault rule s choice = No (record { rule = rule; state = s; choice = choice })

turning_verdicts : AreEqual (
    -- both directions: there is nothing to choose
    (verdict_of (mean_checks Max turns 0 (two (over 1 2) (over 1 2)) (two (number 0) (minus 1 2)) (two (number 0) (minus 1 2)) (over 1 2) (0 ∷ 0 ∷ [])), Yes) ∷
    (verdict_of (mean_checks Min turns 0 (two (over 1 2) (over 1 2)) (two (number 0) (minus 1 2)) (two (number 0) (minus 1 2)) (over 1 2) (0 ∷ 0 ∷ [])), Yes) ∷  -- least turns
    []
    )
unfolding gcd gcd_with_fuel ratio of_int neg_ℚ ◌+ℚ◌ ◌*ℚ◌ narrow narrow_ℚ written_add written_mul written_compare
turning_verdicts = refl

-- another spread
too_wide_spread : verdict_of (mean_checks Max turns 0 (two (over 1 2) (over 1 2)) (two (number 0) (minus 1 2)) (two (number 0) (minus 1 2)) (number 1) (0 ∷ 0 ∷ []))
    ≡ fault SpreadIsGreatest None None
unfolding gcd gcd_with_fuel ratio of_int neg_ℚ ◌+ℚ◌ ◌*ℚ◌ narrow narrow_ℚ written_add written_mul written_compare
too_wide_spread = refl

-- the verdict on what is said of state 0 of `gamble`: its gain, its bias and the choice
abbrev gambling : ℚ → ℚ → ℕ → Verdict
gambling gain bias choice =
    verdict_of (mean_checks Max gamble 0 (gain ∷ number 4 ∷ number 0 ∷ []) (number 0 ∷ number 0 ∷ number 0 ∷ []) (bias ∷ number 0 ∷ number 0 ∷ []) (number 2) (choice ∷ 0 ∷ 0 ∷ []))

gambling_verdicts : AreEqual (
    (gambling (number 2) (minus 2 1) 1, Yes) ∷  -- gambles
    (gambling (number 2) (minus 2 1) 2, fault ChoiceExists (Some 0) (Some 2)) ∷  -- no such choice
    []
    )
unfolding gcd gcd_with_fuel ratio of_int neg_ℚ ◌+ℚ◌ ◌*ℚ◌ narrow narrow_ℚ written_add written_mul written_compare
gambling_verdicts = refl

gain_too_small : gambling (number 1) (minus 2 1) 1 ≡ fault GainOnEachChoice (Some 0) (Some 1)
unfolding gcd gcd_with_fuel ratio of_int neg_ℚ ◌+ℚ◌ ◌*ℚ◌ narrow narrow_ℚ written_add written_mul written_compare
gain_too_small = refl

gain_too_great : gambling (number 3) (minus 2 1) 1 ≡ fault GainOnPolicy (Some 0) (Some 1)
unfolding gcd gcd_with_fuel ratio of_int neg_ℚ ◌+ℚ◌ ◌*ℚ◌ narrow narrow_ℚ written_add written_mul written_compare
gain_too_great = refl

another_bias : gambling (number 2) (minus 1 1) 1 ≡ fault BiasOnPolicy (Some 0) (Some 1)
unfolding gcd gcd_with_fuel ratio of_int neg_ℚ ◌+ℚ◌ ◌*ℚ◌ narrow narrow_ℚ written_add written_mul written_compare
another_bias = refl

-- to stay keeps any gain, but it doesn't earn 2
stays : gambling (number 2) (minus 2 1) 0 ≡ fault BiasOnPolicy (Some 0) (Some 0)
unfolding gcd gcd_with_fuel ratio of_int neg_ℚ ◌+ℚ◌ ◌*ℚ◌ narrow narrow_ℚ written_add written_mul written_compare
stays = refl

mean_verdicts : AreEqual (
    -- to leave earns 4 more once, which the bound takes up and the bias doesn't
    (verdict_of (mean_checks Max leave 0 (two (number 1) (number 1)) (two (number 4) (number 0)) (two (number 0) (number 0)) (number 4) (0 ∷ 0 ∷ [])), Yes) ∷
    -- no bound
    (verdict_of (mean_checks Max leave 0 (two (number 1) (number 1)) (two (number 0) (number 0)) (two (number 0) (number 0)) (number 0) (0 ∷ 0 ∷ [])), fault BoundOnEachChoice (Some 0) (Some 1)) ∷
    -- rewards below 0
    (verdict_of (mean_checks Max pay 0 (two (minus 1 2) (minus 1 2)) (two (number 0) (number 0)) (two (minus 9 2) (number 0)) (over 9 2) (1 ∷ 0 ∷ [])), Yes) ∷
    -- two states that are left nowhere: the bounds' range has the denominator 3(2^126 + 1), which is past width and has no place
    (
      verdict_of (mean_checks Max apart 0 (two (number 0) (number 0)) (two (over 1 3) (over 1 (2 ^ 126 + 1))) (two (number 0) (number 0)) (number 0) (0 ∷ 0 ∷ [])),
      Wide None None,
    ) ∷
    []
    )
unfolding gcd gcd_with_fuel ratio of_int neg_ℚ ◌+ℚ◌ ◌*ℚ◌ narrow narrow_ℚ written_add written_mul written_compare
mean_verdicts = refl

-- ---- what the rules say, in exact numbers

abbrev gambling_says : ℚ → ℚ → Rule → Option ℕ → Option ℕ → Type 0
gambling_says gain bias =
    MeanSays Max gamble 0 (gain ∷ number 4 ∷ number 0 ∷ []) (number 0 ∷ number 0 ∷ number 0 ∷ []) (bias ∷ number 0 ∷ number 0 ∷ []) (number 2) (1 ∷ 0 ∷ 0 ∷ [])

abbrev at_least_gains : ℚ → Bool
at_least_gains gain = le_ℚ (row_sum (row_at gamble 0 1) (gain ∷ number 4 ∷ number 0 ∷ [])) gain

two_passes : at_least_gains (number 2) ≡ true
unfolding gcd gcd_with_fuel ratio of_int le_ℚ ◌+ℚ◌ ◌*ℚ◌
two_passes = refl

one_fails : at_least_gains (number 1) ≡ false
unfolding gcd gcd_with_fuel ratio of_int le_ℚ ◌+ℚ◌ ◌*ℚ◌
one_fails = refl

-- the gain 2 is at least what the gamble leads to, and 1 isn't
two_said : gambling_says (number 2) (minus 2 1) GainOnEachChoice (Some 0) (Some 1)
two_said = λ l i. le_of_test _ _ two_passes

one_refused : gambling_says (number 1) (minus 2 1) GainOnEachChoice (Some 0) (Some 1) → ⊥
one_refused says = true≢false (sym (test_of_le _ _ (says (omega arith) (omega arith))) ∙ one_fails)

-- which is what the no says; and so of the bias, and of the spread
one_refuted : gambling_says (number 1) (minus 2 1) GainOnEachChoice (Some 0) (Some 1) → ⊥
one_refuted =
    mean_refuted Max gamble 0 (number 1 ∷ number 4 ∷ number 0 ∷ []) (number 0 ∷ number 0 ∷ number 0 ∷ []) (minus 2 1 ∷ number 0 ∷ number 0 ∷ []) (number 2) (1 ∷ 0 ∷ 0 ∷ [])
    (record { rule = GainOnEachChoice; state = Some 0; choice = Some 1 }) gain_too_small

bias_refuted : gambling_says (number 2) (minus 1 1) BiasOnPolicy (Some 0) (Some 1) → ⊥
bias_refuted =
    mean_refuted Max gamble 0 (number 2 ∷ number 4 ∷ number 0 ∷ []) (number 0 ∷ number 0 ∷ number 0 ∷ []) (minus 1 1 ∷ number 0 ∷ number 0 ∷ []) (number 2) (1 ∷ 0 ∷ 0 ∷ [])
    (record { rule = BiasOnPolicy; state = Some 0; choice = Some 1 }) another_bias

spread_refuted : MeanSays Max turns 0 (two (over 1 2) (over 1 2)) (two (number 0) (minus 1 2)) (two (number 0) (minus 1 2)) (number 1) (0 ∷ 0 ∷ []) SpreadIsGreatest None None → ⊥
spread_refuted =
    mean_refuted Max turns 0 (two (over 1 2) (over 1 2)) (two (number 0) (minus 1 2)) (two (number 0) (minus 1 2)) (number 1) (0 ∷ 0 ∷ [])
    (record { rule = SpreadIsGreatest; state = None; choice = None }) too_wide_spread

-- nothing is said of a choice that the policy doesn't take
not_taken : gambling_says (number 2) (minus 1 1) BiasOnPolicy (Some 0) (Some 0)
not_taken = λ l e. absurd (omega arith)

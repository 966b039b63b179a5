-- Verdicts, computed.
use Rattle.std.proofs.Common.{◌≡◌, ℕ, ◌+◌, ◌-◌, ◌*◌, ◌^◌, ◌∙◌, Bool, true, false, true≢false, List, [], ◌∷◌, refl, sym, subst, pos, Option, Some, None, Less, arith}
use Rattle.mdp_math.specs.{Gcd.{gcd, gcd_with_fuel}, Rational.{ℚ, of_int, ratio, le_ℚ, lt_ℚ, neg_ℚ, ◌+ℚ◌, ◌*ℚ◌, ◌≤ℚ◌}}
use Rattle.mdp_math.specs.Written.{narrow, narrow_ℚ, written_add, written_mul, written_compare, cmp_ℚ}
use Rattle.mdp_math.proofs.{Extremes.{le_of_test, test_of_le}, Options.{Some_same}, Tables.{AreEqual}}
use Rattle.mdp_spec.specs.{Mdp.{Entry, Mdp, row_at}, Row.{row_sum}, RewardRules.{backup}}
use Rattle.mdp_spec.proofs.Small.{entry, half, minus, number, third, split, split_goals}
use Rattle.mdp_farkas.specs.{Verdict.{verdict_of}, Upper.{upper_checks}, Compare.{0ℚ}}
use Rattle.mdp_bounds.specs.{Sum.{plain_add, told_sum}, Reach.{bounds_checks}, Says.{Column, lower_column, upper_column, ReachSays, RewardSays, MeanSays}, Reward.{reward_bounds_checks}}
use Rattle.mdp_bounds.specs.Mean.{mean_bounds_checks}
use Rattle.mdp_rows.specs.declared.dir.Dir.TheVariants.{Max}
use Rattle.mdp_claims.specs.{declared.verdict.Verdict.{Verdict}, declared.verdict.Verdict.TheVariants.{Yes, No, Wide}}
use Rattle.mdp_claims.specs.declared.rule.Rule.TheVariants.{BiasOnPolicy, BoundOnEachChoice, RewardOnPolicy, RewardValue, ValueOnEachChoice, ValueOnPolicy}
use Rattle.mdp_claims.specs.declared.rule.Rule.{Rule}

-- a number of which a third has a denominator past width
abbrev narrowest : ℚ
narrowest = ratio (pos 1) (2 ^ 126 + 1)

abbrev fault : Rule → ℕ → Option ℕ → Verdict
fault rule state choice = No (record { rule = rule; state = Some state; choice = choice })

-- two numbers whose products across are past width have no written order, and an exact one
abbrev near_one : ℚ
near_one = ratio (pos (2 ^ 126 + 1)) (2 ^ 126 + 3)

abbrev nearer_one : ℚ
nearer_one = ratio (pos (2 ^ 126 + 3)) (2 ^ 126 + 5)

no_written_order : written_compare near_one nearer_one ≡ None
unfolding gcd gcd_with_fuel ratio of_int narrow written_compare
no_written_order = refl

exact_order : cmp_ℚ near_one nearer_one ≡ Less
unfolding gcd gcd_with_fuel ratio of_int
exact_order = refl

-- ---- reaching a goal, in the model `split`

abbrev reached : ℚ → ℚ → ℚ → Verdict
reached low high last =
    verdict_of (bounds_checks Max split split_goals (low ∷ number 1 ∷ number 0 ∷ []) (high ∷ number 1 ∷ last ∷ []) (1 ∷ 0 ∷ 0 ∷ []) (1 ∷ 0 ∷ 0 ∷ []))

-- the greatest probability, 1/3 at state 0, lies between 1/4 and 1/2
between : reached (ratio (pos 1) 4) half (number 0) ≡ Yes
unfolding gcd gcd_with_fuel ratio of_int le_ℚ lt_ℚ ◌+ℚ◌ ◌*ℚ◌ narrow narrow_ℚ written_add written_mul
between = refl

reach_refused : AreEqual (
    -- 1/2 is no lower value, and 1/4 no upper one
    (reached half (number 1) (number 0), fault ValueOnPolicy 0 (Some 1)) ∷
    (reached (ratio (pos 1) 4) (ratio (pos 1) 4) (number 0), fault ValueOnEachChoice 0 (Some 1)) ∷  -- upper too small
    []
    )
unfolding gcd gcd_with_fuel ratio of_int le_ℚ lt_ℚ ◌+ℚ◌ ◌*ℚ◌ narrow narrow_ℚ written_add written_mul
reach_refused = refl

-- a sum with a term past width, which the value 1/2 needs, and the value 1 doesn't
wide : reached third half narrowest ≡ Wide (Some 0) (Some 1)
unfolding gcd gcd_with_fuel ratio of_int le_ℚ lt_ℚ ◌+ℚ◌ ◌*ℚ◌ narrow narrow_ℚ written_add written_mul
wide = refl

no_sum : reached third (number 1) narrowest ≡ Yes
unfolding gcd gcd_with_fuel ratio of_int le_ℚ lt_ℚ ◌+ℚ◌ ◌*ℚ◌ narrow narrow_ℚ written_add written_mul
no_sum = refl

-- by written terms the same upper bounds are too wide
written_too_wide : verdict_of (upper_checks split split_goals (number 1 ∷ number 1 ∷ narrowest ∷ [])) ≡ Wide (Some 0) (Some 1)
unfolding gcd gcd_with_fuel ratio of_int lt_ℚ ◌+ℚ◌ ◌*ℚ◌ narrow narrow_ℚ written_add written_mul written_compare
written_too_wide = refl

-- what the rule of a no says there: the lower value is at most the sum over the row, which 1/4 is and 1/2 isn't
abbrev at_most_row : ℚ → Bool
at_most_row low = le_ℚ low (row_sum (row_at split 0 1) (low ∷ number 1 ∷ number 0 ∷ []))

abbrev reach_says : ℚ → Rule → Option ℕ → Option ℕ → Type 0
reach_says x = ReachSays Max split split_goals (x ∷ number 1 ∷ number 0 ∷ []) (number 1 ∷ number 1 ∷ number 0 ∷ []) (1 ∷ 0 ∷ 0 ∷ []) (1 ∷ 0 ∷ 0 ∷ []) lower_column

quarter_passes : at_most_row (ratio (pos 1) 4) ≡ true
unfolding gcd gcd_with_fuel ratio of_int le_ℚ ◌+ℚ◌ ◌*ℚ◌
quarter_passes = refl

half_fails : at_most_row half ≡ false
unfolding gcd gcd_with_fuel ratio of_int le_ℚ ◌+ℚ◌ ◌*ℚ◌
half_fails = refl

quarter_said : reach_says (ratio (pos 1) 4) ValueOnPolicy (Some 0) (Some 1)
quarter_said = λ l g e. le_of_test _ _ quarter_passes

half_refused : reach_says half ValueOnPolicy (Some 0) (Some 1) → ⊥
half_refused says = true≢false (sym (test_of_le _ _ (says (omega arith) refl refl)) ∙ half_fails)

-- nothing is said of another choice than the policy's, nor by a rule of mean payoffs
not_taken : reach_says half ValueOnPolicy (Some 0) (Some 0)
not_taken = λ l g e. absurd (omega arith)

no_rule_of_reach : reach_says half BiasOnPolicy (Some 0) (Some 1)
no_rule_of_reach = tt

-- the exact probabilities, as lower and as upper values
exactly : reached third third (number 0) ≡ Yes
unfolding gcd gcd_with_fuel ratio of_int le_ℚ lt_ℚ ◌+ℚ◌ ◌*ℚ◌ narrow narrow_ℚ written_add written_mul
exactly = refl

-- ---- a sum over equal values whose one term is past width: it is told by its written terms

-- 1/2^50 + 1/3^32, which two targets have, and a start whose denominator 2^50 5^21 the first term cancels
abbrev twin : ℚ
twin = ratio (pos (2 ^ 50 + 3 ^ 32)) (2 ^ 50 * 3 ^ 32)

abbrev begin : ℚ
begin = ratio (pos (2 ^ 51 + (2 ^ 50 - 1) * 5 ^ 21)) (2 ^ 50 * 5 ^ 21)

abbrev twins : List Entry
twins = entry 0 (ratio (pos (3 ^ 32)) (2 ^ 50 + 3 ^ 32)) ∷ entry 1 (ratio (pos (2 ^ 50)) (2 ^ 50 + 3 ^ 32)) ∷ []

no_plain_sum : plain_add begin twin ≡ None
unfolding gcd gcd_with_fuel ratio of_int ◌+ℚ◌ narrow narrow_ℚ written_add
no_plain_sum = refl

told : told_sum (twin ∷ twin ∷ []) begin twins ≡ Some (begin +ℚ twin)
unfolding gcd gcd_with_fuel ratio of_int ◌+ℚ◌ ◌*ℚ◌ narrow narrow_ℚ written_add written_mul
told = refl

-- ---- rewards until a goal: a trial costs 1, and succeeds with 1/2

abbrev trial : Mdp
trial = record {
  names = [] ∷ [];
  labels = [];
  states =
      record { labels = []; choices = record { row = entry 0 half ∷ entry 1 half ∷ []; rewards = number 1 ∷ [] } ∷ [] }
      ∷ record { labels = []; choices = record { row = entry 1 (number 1) ∷ []; rewards = number 0 ∷ [] } ∷ [] }
      ∷ [];
}

abbrev costs : Option ℚ → Option ℚ → Verdict
costs low high = verdict_of (reward_bounds_checks Max trial 0 (false ∷ true ∷ []) (low ∷ Some (number 0) ∷ []) (high ∷ Some (number 0) ∷ []) (0 ∷ 0 ∷ []) (1 ∷ 0 ∷ []))

costs_judged : AreEqual (
    -- two trials are expected
    (costs (Some (number 1)) (Some (number 3)), Yes) ∷
    (costs (Some (number 3)) None, fault RewardOnPolicy 0 (Some 0)) ∷  -- costs less
    (costs (Some (number 0)) None, Yes) ∷  -- costs something
    -- an infinite lower value above a finite upper one
    (costs None (Some (number 3)), fault RewardValue 0 None) ∷
    (costs (Some (number 2)) (Some (number 2)), Yes) ∷  -- costs exactly
    []
    )
unfolding gcd gcd_with_fuel ratio of_int le_ℚ ◌+ℚ◌ ◌*ℚ◌ narrow narrow_ℚ written_add written_mul
costs_judged = refl

-- what the rules of those no say: a lower value is at most what the policy's choice earns, and is infinite only where the upper one is
abbrev costs_say : Option ℚ → Option ℚ → Rule → Option ℕ → Option ℕ → Type 0
costs_say x y = RewardSays Max trial 0 (false ∷ true ∷ []) (x ∷ Some (number 0) ∷ []) (y ∷ Some (number 0) ∷ []) (0 ∷ 0 ∷ []) (1 ∷ 0 ∷ []) lower_column

abbrev at_most_earned : ℚ → Bool
at_most_earned low = le_ℚ low (backup trial 0 0 0 (low ∷ number 0 ∷ []))

one_passes : at_most_earned (number 1) ≡ true
unfolding gcd gcd_with_fuel ratio of_int le_ℚ ◌+ℚ◌ ◌*ℚ◌
one_passes = refl

three_fails : at_most_earned (number 3) ≡ false
unfolding gcd gcd_with_fuel ratio of_int le_ℚ ◌+ℚ◌ ◌*ℚ◌
three_fails = refl

one_said : costs_say (Some (number 1)) None RewardOnPolicy (Some 0) (Some 0)
one_said = λ t e. le_of_test _ _ one_passes

three_refused : costs_say (Some (number 3)) None RewardOnPolicy (Some 0) (Some 0) → ⊥
three_refused says = true≢false (sym (test_of_le _ _ (says (omega arith, refl, refl) refl)) ∙ three_fails)

order_refused : costs_say None (Some (number 3)) RewardValue (Some 0) None → ⊥
order_refused says = true≢false (sym ((says (omega arith)).0 refl))

-- a rule that is asked of both columns says it of each: of 0 below -1 it is false of the upper values alone
abbrev crossed_say : Column → Rule → Option ℕ → Option ℕ → Type 0
crossed_say = RewardSays Max trial 0 (false ∷ true ∷ []) (Some (number 0) ∷ Some (number 0) ∷ []) (Some (minus 1 1) ∷ Some (number 0) ∷ []) (0 ∷ 0 ∷ []) (1 ∷ 0 ∷ [])

zero_passes : le_ℚ 0ℚ (number 0) ≡ true
unfolding gcd gcd_with_fuel ratio of_int le_ℚ
zero_passes = refl

minus_one_fails : le_ℚ 0ℚ (minus 1 1) ≡ false
unfolding gcd gcd_with_fuel ratio of_int le_ℚ neg_ℚ
minus_one_fails = refl

lower_said : crossed_say lower_column RewardValue (Some 0) None
lower_said = λ l. (
  λ i. absurd (true≢false (sym i)),
  (λ x e. subst (λ (y : ℚ). 0ℚ ≤ℚ y) (Some_same _ _ e) (le_of_test _ _ zero_passes), λ g. absurd (true≢false (sym g))),
)

upper_refused : crossed_say upper_column RewardValue (Some 0) None → ⊥
upper_refused says = true≢false (sym (test_of_le _ _ ((says (omega arith)).1.0 (minus 1 1) refl)) ∙ minus_one_fails)

-- ---- mean payoff: a state with two loops, of reward 1 and 3

abbrev loops : Mdp
loops = record {
  names = [] ∷ [];
  labels = [];
  states =
      record { labels = []; choices = record { row = entry 0 (number 1) ∷ []; rewards = number 1 ∷ [] } ∷ record { row = entry 0 (number 1) ∷ []; rewards = number 3 ∷ [] } ∷ [] } ∷ [];
}

abbrev earns : ℕ → ℕ → ℕ → Verdict
earns low high choice = verdict_of (mean_bounds_checks Max loops 0 (number low ∷ []) (number high ∷ []) (number 0 ∷ []) (number 0 ∷ []) (number 0) (choice ∷ []))

earns_judged : AreEqual (
    (earns 1 3 0, Yes) ∷  -- earns trivially
    (earns 2 3 0, fault BiasOnPolicy 0 (Some 0)) ∷  -- earns less
    (earns 1 2 1, fault BoundOnEachChoice 0 (Some 1)) ∷  -- earns more
    (earns 3 3 1, Yes) ∷  -- earns exactly
    []
    )
unfolding gcd gcd_with_fuel ratio of_int le_ℚ neg_ℚ ◌+ℚ◌ ◌*ℚ◌ narrow narrow_ℚ written_add written_mul
earns_judged = refl

-- what the rule of that no says: the lower gain and the bias are at most what the policy's choice earns by the bias
abbrev earns_say : ℕ → Rule → Option ℕ → Option ℕ → Type 0
earns_say low = MeanSays Max loops 0 (number low ∷ []) (number 3 ∷ []) (number 0 ∷ []) (number 0 ∷ []) (number 0) (0 ∷ [])

abbrev at_most_step : ℕ → Bool
at_most_step low = le_ℚ (number low +ℚ number 0) (backup loops 0 0 0 (number 0 ∷ []))

one_steps : at_most_step 1 ≡ true
unfolding gcd gcd_with_fuel ratio of_int le_ℚ ◌+ℚ◌ ◌*ℚ◌
one_steps = refl

two_steps_not : at_most_step 2 ≡ false
unfolding gcd gcd_with_fuel ratio of_int le_ℚ ◌+ℚ◌ ◌*ℚ◌
two_steps_not = refl

step_said : earns_say 1 BiasOnPolicy (Some 0) (Some 0)
step_said = λ l e. le_of_test _ _ one_steps

step_refused : earns_say 2 BiasOnPolicy (Some 0) (Some 0) → ⊥
step_refused says = true≢false (sym (test_of_le _ _ (says (omega arith) refl)) ∙ two_steps_not)

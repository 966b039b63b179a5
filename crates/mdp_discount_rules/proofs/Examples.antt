-- Verdicts on discounted rewards, computed. `wait` stays at 0 for 1 in each step, or moves to 1, which earns 3 in each step. `puterman` is the example
-- with two states of Puterman 1994, section 3.1: 5 at 0, where half the time one stays, or 10 at once, and -1 in each step at 1.
use Rattle.std.proofs.Common.{◌≡◌, ℕ, List, [], ◌∷◌, refl, pos, Option, Some, None, arith}
use Rattle.mdp_math.specs.{Gcd.{gcd, gcd_with_fuel}, Rational.{ℚ, of_int, ratio, neg_ℚ, ◌+ℚ◌, ◌*ℚ◌, le_ℚ}}
use Rattle.mdp_math.specs.Written.{narrow, narrow_ℚ, written_add, written_mul, written_compare}
use Rattle.mdp_math.proofs.Tables.{AreEqual}
use Rattle.mdp_spec.specs.Mdp.{Mdp}
use Rattle.mdp_spec.proofs.Small.{entry, model, number, over, state, to, wait}
use Rattle.mdp_farkas.specs.Verdict.{verdict_of}
use Rattle.mdp_claims.specs.{declared.verdict.Verdict.{Verdict}, declared.verdict.Verdict.TheVariants.{Yes, No}}
use Rattle.mdp_claims.specs.{declared.rule.Rule.{Rule}, declared.verdict.Fault.{Fault}}
use Rattle.mdp_claims.specs.declared.rule.Rule.TheVariants.{ChoiceExists, DiscountedOnEachChoice, DiscountedOnPolicy, RemainderIsGreatest}
use Rattle.mdp_rows.specs.{declared.dir.Dir.{Dir}, declared.dir.Dir.TheVariants.{Max, Min}}
use Rattle.mdp_discount_rules.specs.{Checks.{discount_checks}, Says.{DiscountSays}}
use Rattle.mdp_discount_rules.proofs.Telling.{discount_refuted}

abbrev minus : ℕ → ℚ
minus n = neg_ℚ (of_int (pos n))

abbrev puterman : Mdp
puterman = model
    (state (record { row = entry 0 (over 1 2) ∷ entry 1 (over 1 2) ∷ []; rewards = number 5 ∷ [] } ∷ to 1 (number 10) ∷ [])
    ∷ state (to 1 (minus 1) ∷ [])
    ∷ [])

abbrev says : Dir → Mdp → ℚ → List ℚ → ℚ → List ℕ → Verdict
says dir m f v remainder policy = verdict_of (discount_checks dir m 0 f v remainder policy)

-- ---- what holds

waits : says Max wait (over 1 2) (number 3 ∷ number 6 ∷ []) (number 6) (1 ∷ 0 ∷ []) ≡ Yes
unfolding gcd gcd_with_fuel of_int ratio neg_ℚ le_ℚ ◌+ℚ◌ ◌*ℚ◌ narrow narrow_ℚ written_add written_mul written_compare
waits = refl

half : says Max puterman (over 1 2) (number 9 ∷ minus 2 ∷ []) (number 9) (1 ∷ 0 ∷ []) ≡ Yes
unfolding gcd gcd_with_fuel of_int ratio neg_ℚ le_ℚ ◌+ℚ◌ ◌*ℚ◌ narrow narrow_ℚ written_add written_mul written_compare
half = refl

greatest_judged : AreEqual (
    -- the remainder is a magnitude: -10 is the farthest from 0
    (says Max puterman (over 9 10) (number 1 ∷ minus 10 ∷ []) (number 10) (1 ∷ 0 ∷ []), Yes) ∷
    (says Min puterman (over 1 2) (number 6 ∷ minus 2 ∷ []) (number 6) (0 ∷ 0 ∷ []), Yes) ∷  -- least
    -- under factor 0 the values are the rewards
    (says Max puterman (number 0) (number 10 ∷ minus 1 ∷ []) (number 10) (1 ∷ 0 ∷ []), Yes) ∷
    []
    )
unfolding gcd gcd_with_fuel of_int ratio neg_ℚ le_ℚ ◌+ℚ◌ ◌*ℚ◌ narrow narrow_ℚ written_add written_mul written_compare
greatest_judged = refl

-- ---- what is refused

least_judged : AreEqual (
    -- to wait for ever earns 2; to move on earns 3
    (says Max wait (over 1 2) (number 2 ∷ number 6 ∷ []) (number 6) (0 ∷ 0 ∷ []), No (record { rule = DiscountedOnEachChoice; state = Some 0; choice = Some 1 })) ∷
    (says Max wait (over 1 2) (number 4 ∷ number 6 ∷ []) (number 6) (1 ∷ 0 ∷ []), No (record { rule = DiscountedOnPolicy; state = Some 0; choice = Some 1 })) ∷  -- too much
    (says Max wait (over 1 2) (number 3 ∷ number 6 ∷ []) (number 5) (1 ∷ 0 ∷ []), No (record { rule = RemainderIsGreatest; state = None; choice = None })) ∷  -- small remainder
    (says Max puterman (over 9 10) (number 1 ∷ minus 10 ∷ []) (number 1) (1 ∷ 0 ∷ []), No (record { rule = RemainderIsGreatest; state = None; choice = None })) ∷  -- greatest value
    (says Max wait (over 1 2) (number 3 ∷ number 6 ∷ []) (number 6) (2 ∷ 0 ∷ []), No (record { rule = ChoiceExists; state = Some 0; choice = Some 2 })) ∷  -- no choice
    []
    )
unfolding gcd gcd_with_fuel of_int ratio neg_ℚ le_ℚ ◌+ℚ◌ ◌*ℚ◌ narrow narrow_ℚ written_add written_mul written_compare
least_judged = refl

-- ---- what a no says of the policy's choice at state 0: it doesn't come to 4

abbrev four_says : Rule → Option ℕ → Option ℕ → Type 0
four_says = DiscountSays Max wait 0 (over 1 2) (number 4 ∷ number 6 ∷ []) (number 6) (1 ∷ 0 ∷ [])

abbrev moves : Fault
moves = record { rule = DiscountedOnPolicy; state = Some 0; choice = Some 1 }

four_denied : says Max wait (over 1 2) (number 4 ∷ number 6 ∷ []) (number 6) (1 ∷ 0 ∷ []) ≡ No moves
unfolding gcd gcd_with_fuel of_int ratio neg_ℚ le_ℚ ◌+ℚ◌ ◌*ℚ◌ narrow narrow_ℚ written_add written_mul written_compare
four_denied = refl

four_refuted : four_says DiscountedOnPolicy (Some 0) (Some 1) → ⊥
four_refuted = (discount_refuted Max wait 0 (over 1 2) (number 4 ∷ number 6 ∷ []) (number 6) (1 ∷ 0 ∷ []) moves four_denied).1

-- nothing is said of a choice that the policy doesn't take
not_taken : four_says DiscountedOnPolicy (Some 0) (Some 0)
not_taken = λ l e. absurd (omega (arith, e))

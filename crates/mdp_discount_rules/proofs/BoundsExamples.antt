-- Verdicts on bounds of discounted rewards, computed. `wait` stays at 0 for 1 in each step, or moves to 1, which earns 3 in each step: under the factor
-- 1/2 the greatest rewards are 3 and 6. `puterman` is the example with two states of Puterman 1994, section 3.1: 5 at 0, where half the time one stays,
-- or 10 at once, and -1 in each step at 1; its least rewards are 6 and -2.
use Rattle.std.proofs.Common.{◌≡◌, ℕ, List, [], ◌∷◌, Option, refl, Some, None}
use Rattle.mdp_math.specs.{Gcd.{gcd, gcd_with_fuel}, Rational.{ℚ, of_int, ratio, neg_ℚ, ◌+ℚ◌, ◌*ℚ◌, le_ℚ}, Written.{narrow, narrow_ℚ, written_add, written_mul}}
use Rattle.mdp_math.proofs.Tables.{AreEqual}
use Rattle.mdp_spec.specs.Mdp.{Mdp}
use Rattle.mdp_spec.proofs.Small.{entry, half, model, number, state, to, wait}
use Rattle.mdp_farkas.specs.Verdict.{verdict_of}
use Rattle.mdp_claims.specs.{declared.verdict.Verdict.{Verdict}, declared.verdict.Verdict.TheVariants.{Yes, No}, declared.rule.Rule.{Rule}}
use Rattle.mdp_claims.specs.declared.rule.Rule.TheVariants.{ChoiceExists, DiscountedOnEachChoice, DiscountedOnPolicy, RemainderIsGreatest}
use Rattle.mdp_rows.specs.{declared.dir.Dir.{Dir}, declared.dir.Dir.TheVariants.{Max, Min}}
use Rattle.mdp_discount_rules.specs.BoundsChecks.{discount_bounds_checks}

abbrev puterman : Mdp
puterman = model
    (state (record { row = entry 0 half ∷ entry 1 half ∷ []; rewards = number 5 ∷ [] } ∷ to 1 (number 10) ∷ [])
    ∷ state (to 1 (neg_ℚ (number 1)) ∷ [])
    ∷ [])

abbrev some : ℕ → Option ℚ
some n = Some (number n)

abbrev minus : ℕ → Option ℚ
minus n = Some (neg_ℚ (number n))

abbrev says : Dir → Mdp → List (Option ℚ) → List (Option ℚ) → ℚ → List ℕ → Verdict
says dir m lower upper remainder policy = verdict_of (discount_bounds_checks dir m 0 half lower upper remainder policy)

abbrev fault : Rule → ℕ → ℕ → Verdict
fault rule s c = No (record { rule = rule; state = Some s; choice = Some c })

-- ---- what holds

waits : says Max wait (some 2 ∷ some 5 ∷ []) (some 4 ∷ some 7 ∷ []) (number 7) (1 ∷ 0 ∷ []) ≡ Yes
unfolding gcd gcd_with_fuel of_int ratio neg_ℚ le_ℚ ◌+ℚ◌ ◌*ℚ◌ narrow narrow_ℚ written_add written_mul
waits = refl

-- of the least rewards the lower values are held against each choice
least : says Min puterman (some 5 ∷ minus 3 ∷ []) (some 7 ∷ minus 1 ∷ []) (number 7) (0 ∷ 0 ∷ []) ≡ Yes
unfolding gcd gcd_with_fuel of_int ratio neg_ℚ le_ℚ ◌+ℚ◌ ◌*ℚ◌ narrow narrow_ℚ written_add written_mul
least = refl

-- a value that is missing claims nothing; another may stand on those that are there
without_first : says Max wait (None ∷ some 5 ∷ []) (None ∷ some 7 ∷ []) (number 7) (1 ∷ 0 ∷ []) ≡ Yes
unfolding gcd gcd_with_fuel of_int ratio neg_ℚ le_ℚ ◌+ℚ◌ ◌*ℚ◌ narrow narrow_ℚ written_add written_mul
without_first = refl

-- nothing claimed
nothing : says Max wait (None ∷ None ∷ []) (None ∷ None ∷ []) (number 0) (0 ∷ 0 ∷ []) ≡ Yes
unfolding gcd gcd_with_fuel of_int ratio neg_ℚ le_ℚ ◌+ℚ◌ ◌*ℚ◌ narrow narrow_ℚ written_add written_mul
nothing = refl

-- ---- what is refused

bounds_judged : AreEqual (
    -- to move on earns 7/2 by these upper values, which is more than 2
    (says Max wait (some 2 ∷ some 5 ∷ []) (some 2 ∷ some 7 ∷ []) (number 7) (1 ∷ 0 ∷ []), fault DiscountedOnEachChoice 0 1) ∷
    (says Max wait (some 4 ∷ some 5 ∷ []) (some 4 ∷ some 7 ∷ []) (number 7) (1 ∷ 0 ∷ []), fault DiscountedOnPolicy 0 1) ∷  -- lower high
    -- a value doesn't stand on one that is missing
    (says Max wait (some 2 ∷ some 5 ∷ []) (some 4 ∷ None ∷ []) (number 5) (1 ∷ 0 ∷ []), fault DiscountedOnEachChoice 0 1) ∷
    (says Max wait (some 2 ∷ some 5 ∷ []) (some 4 ∷ some 7 ∷ []) (number 5) (1 ∷ 0 ∷ []), No (record { rule = RemainderIsGreatest; state = None; choice = None })) ∷  -- small remainder
    (says Max wait (None ∷ None ∷ []) (None ∷ None ∷ []) (number 0) (2 ∷ 0 ∷ []), fault ChoiceExists 0 2) ∷  -- no choice
    []
    )
unfolding gcd gcd_with_fuel of_int ratio neg_ℚ le_ℚ ◌+ℚ◌ ◌*ℚ◌ narrow narrow_ℚ written_add written_mul
bounds_judged = refl

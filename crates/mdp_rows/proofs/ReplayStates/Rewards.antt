-- The rewards of a state whose own are 0 are those of its choices.
use Rattle.std.proofs.Common.{◌≡◌, ℕ, ◌*◌, ◌/◌, ◌<◌, ◌^◌, Bool, true, leb, le-leb, List, [], ◌∷◌}
use Rattle.std.proofs.{Common.{length, Some, ℤ, pos, ◌+ℤ◌, ◌*ℤ◌, unsigned_abs, refl, ap, ◌∙◌, arith, if◌then◌else◌}, lemmas.Int.{ints}, lemmas.Bool.{and_from}}
use Rattle.std.specs.{Prelude.{Result, Ok, Err}, List.{AllByRecursion}}
use Rattle.mdp_math.specs.{Gcd.{gcd, gcd_comm, gcd-one_right}, Rational.{ℚ, ◌+ℚ◌}, Written.{narrow, narrow_ℚ, across, common_den, written_add}}
use Rattle.mdp_math.proofs.{Laws.{num-of_int, den-of_int, zero-+ℚ}, Written.{narrow-kept, narrow_ℚ-kept}, Order.{0ℚ}}
use Rattle.mdp_num.specs.Numeral.{limit}
use Rattle.mdp_rows.specs.{Limits.{HasSmallTerms}, Draft.{has_small_terms, kept_sum, summed_rewards, ◌>>=◌}, Replay.{no_rewards}}
use Rattle.mdp_rows.specs.{declared.error.RowsError.{RowsError}, declared.error.RowsError.TheVariants.{Large}}

gcd-one_left : (a : ℕ) → gcd 1 a ≡ 1
gcd-one_left a = gcd_comm 1 a ∙ gcd-one_right a

-- the terms of 0 and r over their common denominator
none_across : (r : ℚ) → across 0ℚ r ≡ pos 0
none_across r = ap (λ (z : ℤ). z *ℤ pos (r.den / gcd (ℚ.den 0ℚ) r.den)) (num-of_int (pos 0)) ∙ omega (arith, ints)

over_one : (n : ℕ) → 1 / 1 * n ≡ n
over_one n = omega arith

all_across : (r : ℚ) → across r 0ℚ ≡ r.num
all_across r =
    ap (λ (d : ℕ). r.num *ℤ pos (d / gcd r.den d)) (den-of_int (pos 0)) ∙ ap (λ (g : ℕ). r.num *ℤ pos (1 / g)) (gcd-one_right r.den) ∙ omega (arith, ints)

common_is : (r : ℚ) → common_den 0ℚ r ≡ pos r.den
common_is r =
    ap (λ (d : ℕ). pos (d / gcd d r.den) *ℤ pos r.den) (den-of_int (pos 0)) ∙ ap (λ (g : ℕ). pos (1 / g) *ℤ pos r.den) (gcd-one_left r.den) ∙ omega (arith, ints)

zero_plus : (z : ℤ) → pos 0 +ℤ z ≡ z
zero_plus z = omega (arith, ints)

pub written_add-zero : (r : ℚ) → unsigned_abs r.num < 2 ^ 127 → r.den < 2 ^ 127 → written_add 0ℚ r ≡ Some r
unfolding written_add
written_add-zero r n d =
    let a : narrow (across 0ℚ r) ≡ Some (pos 0) = ap narrow (none_across r) ∙ narrow-kept (pos 0) (omega arith) in
    let b : narrow (across r 0ℚ) ≡ Some r.num = ap narrow (all_across r) ∙ narrow-kept r.num n in
    let c : narrow (pos 0 +ℤ r.num) ≡ Some r.num = ap narrow (zero_plus r.num) ∙ narrow-kept r.num n in
    let e : narrow (common_den 0ℚ r) ≡ Some (pos r.den) = ap narrow (common_is r) ∙ narrow-kept (pos r.den) d in
    let f : narrow_ℚ (0ℚ +ℚ r) ≡ Some r = ap narrow_ℚ (zero-+ℚ r) ∙ narrow_ℚ-kept r n d in
    rw (a, b, c, e) f

small_is : (r : ℚ) → HasSmallTerms r → has_small_terms r ≡ true
small_is r w = and_from (leb (unsigned_abs r.num) limit) (leb r.den limit) (le-leb (unsigned_abs r.num) limit w.num) (le-leb r.den limit w.den)

kept_is : (r : ℚ) → HasSmallTerms r → kept_sum (written_add 0ℚ r) ≡ Ok r
kept_is r w =
    ap kept_sum (written_add-zero r (let h = w.num in omega (arith, h)) (let h = w.den in omega (arith, h)))
    ∙ ap (λ (b : Bool). if b then Ok r else Err Large) (small_is r w)

pub summed-zeros : (names : List (List ℕ)) (rewards : List ℚ) → length rewards ≡ length names → AllByRecursion HasSmallTerms rewards → summed_rewards (no_rewards names) rewards ≡ Ok rewards
summed-zeros [] [] e all = refl
summed-zeros [] (r ∷ rewards) e all = absurd (omega arith)
summed-zeros (name ∷ names) [] e all = absurd (omega arith)
summed-zeros (name ∷ names) (r ∷ rewards) e all =
    ap (λ (x : Result ℚ RowsError). x >>= λ sum. summed_rewards (no_rewards names) rewards >>= λ sums. Ok (sum ∷ sums)) (kept_is r all.0)
    ∙ ap (λ (x : Result (List ℚ) RowsError). x >>= λ sums. Ok (r ∷ sums)) (summed-zeros names rewards (omega arith) all.1)

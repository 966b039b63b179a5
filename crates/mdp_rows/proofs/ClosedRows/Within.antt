-- The probabilities of a row whose common denominator is within the limit are within it too.
use Rattle.std.proofs.{Common.{ℕ, ◌<◌, ◌≤◌, List, [], ◌∷◌, pos, unsigned_abs, sym, ◌∙◌, arith}, lemmas.Int.{ints}}
use Rattle.std.proofs.lemmas.List.Elements.{All-from_recursion, recursion_from_All}
use Rattle.std.specs.{Int.{◌∣◌}, List.{All, AllByRecursion}}
use Rattle.mdp_math.specs.{Rational.{ℚ, ◌+ℚ◌, ◌≤ℚ◌, ◌<ℚ◌}, Sum.{sum_of}}
use Rattle.mdp_math.proofs.{Laws.{is_self, is_of_int, zero-+ℚ, +ℚ_comm}, Order.{0ℚ, 1ℚ, nonneg, is_le, ≤ℚ_refl, ≤ℚ_trans, ≤ℚ_of_eq, ≤ℚ_of_lt, add-le-add_ℚ}}
use Rattle.mdp_math.proofs.Sums.{sum_of-nonneg}
use Rattle.mdp_spec.proofs.Units.{row_den-pos}
use Rattle.mdp_rows.proofs.ClosedRows.Denominators.{row_den-all}
use Rattle.mdp_spec.specs.{Mdp.{Entry}, Row.{IsDistribution}, Unit.{row_den}}
use Rattle.mdp_num.specs.{Meaning.{IsWithinLimit}, Numeral.{limit}}
use native.Mathlib.Nat.{le_of_dvd}

-- ---- no value is above the sum

above_first : (x y t : ℚ) → 0ℚ ≤ℚ y → x +ℚ y ≤ℚ t → x ≤ℚ t
above_first x y t h l = ≤ℚ_trans x (x +ℚ y) t (≤ℚ_trans x (x +ℚ 0ℚ) (x +ℚ y) (≤ℚ_of_eq x (x +ℚ 0ℚ) (sym (+ℚ_comm x 0ℚ ∙ zero-+ℚ x))) (add-le-add_ℚ x x 0ℚ y (≤ℚ_refl x) h)) l

above_last : (x y t : ℚ) → 0ℚ ≤ℚ x → x +ℚ y ≤ℚ t → y ≤ℚ t
above_last x y t h l = above_first y x t h (≤ℚ_trans (y +ℚ x) (x +ℚ y) t (≤ℚ_of_eq (y +ℚ x) (x +ℚ y) (+ℚ_comm y x)) l)

below_sum : (row : List Entry) (t : ℚ) → AllByRecursion (λ x. 0ℚ ≤ℚ x.prob) row → sum_of (λ x. x.prob) row ≤ℚ t → AllByRecursion (λ x. x.prob ≤ℚ t) row
below_sum [] t all h = tt
below_sum (x ∷ row) t all h = (
  above_first x.prob (sum_of (λ y. y.prob) row) t (sum_of-nonneg (λ y. y.prob) row (All-from_recursion (λ y. 0ℚ ≤ℚ y.prob) row all.1)) h,
  below_sum row t all.1 (above_last x.prob (sum_of (λ y. y.prob) row) t all.0 h),
)

-- ---- both terms

-- the numerator of a number of 0 to 1 is at most its denominator
num-le_den : (x : ℚ) → 0ℚ ≤ℚ x → x ≤ℚ 1ℚ → unsigned_abs x.num ≤ x.den
num-le_den x h l =
    let a = is_le x 1ℚ x.num (pos 1) x.den 1 (is_self x) (is_of_int (pos 1)) l in
    let z = nonneg x h in
    omega (arith, ints, a, z)

part_within : (x : ℚ) (n : ℕ) → 0ℚ ≤ℚ x → x ≤ℚ 1ℚ → x.den ∣ n → 0 < n → n ≤ limit → IsWithinLimit x
part_within x n h l d p e =
    let k : x.den ≤ n = le_of_dvd p d in
    let m = num-le_den x h l in
    record { nonnegative = h; num = omega (arith, k, m, e); den = omega (arith, k, e) }

each_within : (row : List Entry) (n : ℕ) → AllByRecursion (λ x. 0ℚ ≤ℚ x.prob) row → AllByRecursion (λ x. x.prob ≤ℚ 1ℚ) row → AllByRecursion (λ x. x.prob.den ∣ n) row → 0 < n → n ≤ limit
    → AllByRecursion (λ x. IsWithinLimit x.prob) row
each_within [] n h l d p e = tt
each_within (x ∷ row) n h l d p e = (part_within x.prob n h.0 l.0 d.0 p e, each_within row n h.1 l.1 d.1 p e)

not_negative : (row : List Entry) → AllByRecursion (λ x. 0ℚ <ℚ x.prob) row → AllByRecursion (λ x. 0ℚ ≤ℚ x.prob) row
not_negative [] all = tt
not_negative (x ∷ row) all = (≤ℚ_of_lt 0ℚ x.prob all.0, not_negative row all.1)

pub probs_within : (row : List Entry) → IsDistribution row → row_den row ≤ limit → All (λ x. IsWithinLimit x.prob) row
probs_within row d h =
    let p = not_negative row (recursion_from_All (λ x. 0ℚ <ℚ x.prob) row d.positive) in
    All-from_recursion (λ x. IsWithinLimit x.prob) row
    (each_within row (row_den row) p (below_sum row 1ℚ p (≤ℚ_of_eq (sum_of (λ x. x.prob) row) 1ℚ d.total)) (row_den-all row) (row_den-pos row) h)

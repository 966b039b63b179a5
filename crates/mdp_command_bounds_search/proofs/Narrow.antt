-- Numbers that written arithmetic takes, or makes, are in width.
use Rattle.std.proofs.Common.{◌≡◌, ℕ, zero, suc, ◌*◌, ◌/◌, ◌<◌, ◌≤◌, ◌^◌, Bool, true, false, ◌&&◌, T, ltb, ltb→lt, if◌then◌else◌, ℤ}
use Rattle.std.proofs.Common.{pos, negsuc, ◌+ℤ◌, ◌*ℤ◌, ◌≤ℤ◌, neg_ℤ, unsigned_abs}
use Rattle.std.proofs.{Common.{List, [], ◌∷◌, Option, Some, None, refl, sym, ap, subst, ◌∙◌, arith, lit<}, Math.Nat.{le-mul_of_pos_right, mul-le-mul_right, div-one}}
use Rattle.std.proofs.lemmas.{Bool.{false≢true}, Int.{ints, unsigned_abs-mul}, List.Elements.{All-contains, All-from_recursion}}
use Rattle.std.specs.{Option.{IsSome}, List.{All}}
use Rattle.mdp_math.specs.{Gcd.{gcd, gcd_is, gcd-le_right, gcd_comm, gcd-one_right}, Rational.{ℚ, of_int, neg_ℚ, ◌+ℚ◌, ◌≤ℚ◌, quotient-pos}, Extremes.{greatest}}
use Rattle.mdp_math.specs.Written.{in_width, narrow, narrow_ℚ, across, common_den, written_add, written_mul, written_compare}
use Rattle.mdp_math.proofs.{Extremes.{greatest-in}, IntegerRing.{int_ring}, Laws.{den-pos, num-neg, den-neg}, Linear.{linear, known}}
use Rattle.mdp_math.proofs.{Order.{across_le}, Options.{step_told}, Ring.{◌⊗◌, ⊖, lit, ring}, Written.{narrow-some}}
use Rattle.mdp_num.specs.{Numeral.{limit}, Value.{IsNarrow}}
use Rattle.mdp_rows.specs.Limits.{HasSmallTerms}
use Rattle.mdp_spec.specs.{Mdp.{Entry, value_at}, Written.{written_sum}}
use native.Mathlib.Nat.{div-mul_cancel}

-- ---- a number that is made

made_by : (x y : ℚ) (b c : Bool) → (b ≡ true → unsigned_abs x.num < 2 ^ 127) → (c ≡ true → x.den < 2 ^ 127) → Some y ≡ (if b && c then Some x else None) → IsNarrow y
made_by x y true true f g e = let same : y ≡ x = cc in subst IsNarrow (sym same) (record { top = f refl; bottom = g refl })
made_by x y true false f g e = cc
made_by x y false c f g e = cc

below : (k n : ℕ) → ltb k n ≡ true → k < n
below k n e = ltb→lt k n (subst T (sym e) tt)

narrow_made : (x y : ℚ) → Some y ≡ narrow_ℚ x → IsNarrow y
unfolding narrow_ℚ
narrow_made x y e = made_by x y (in_width x.num) (in_width (pos x.den)) (below (unsigned_abs x.num) (2 ^ 127)) (below x.den (2 ^ 127)) e

-- ---- the numbers of a sum

factor_below : (a k : ℕ) → 0 < k → a * k < 2 ^ 127 → a < 2 ^ 127
factor_below a k some h = let l = le-mul_of_pos_right a some in omega (arith, l, h)

-- where one number's numerator times the other's cofactor is in width, the numerator is
num_below : (x y : ℚ) (z : ℤ) → Some z ≡ narrow (across x y) → unsigned_abs x.num < 2 ^ 127
num_below x y z e =
    let k : ℕ = y.den / gcd x.den y.den in
    let some = quotient-pos y.den (gcd x.den y.den) (den-pos y) (gcd_is x.den y.den).1 in
    factor_below (unsigned_abs x.num) (y.den / gcd x.den y.den) some
    (subst (λ (n : ℕ). n < 2 ^ 127) (unsigned_abs-mul x.num (pos (y.den / gcd x.den y.den))) (narrow-some (across x y) z e).1)

-- and where the common denominator is, both denominators are
left_below : (x y : ℚ) → x.den / gcd x.den y.den * y.den < 2 ^ 127 → x.den < 2 ^ 127
left_below x y h =
    let whole = div-mul_cancel (gcd x.den y.den) (gcd_is x.den y.den).0 in
    let at_most = mul-le-mul_right (x.den / gcd x.den y.den) (gcd-le_right x.den y.den (den-pos y)) in
    grind arith

right_below : (x y : ℚ) → x.den / gcd x.den y.den * y.den < 2 ^ 127 → y.den < 2 ^ 127
right_below x y h =
    let some = quotient-pos x.den (gcd x.den y.den) (den-pos x) (gcd_is x.den y.den).0 in
    let l = le-mul_of_pos_right y.den some in
    grind arith

pub record Took (x y r : ℚ) : Type 0 where
  pub left : IsNarrow x
  pub right : IsNarrow y
  pub made : IsNarrow r

pub sum_took : (x y r : ℚ) → Some r ≡ written_add x y → Took x y r
unfolding written_add
sum_took x y r e =
    let a = step_told (narrow (across x y)) _ r e in
    let b = step_told (narrow (across y x)) _ r a.2 in
    let s = step_told (narrow (a.0 +ℤ b.0)) _ r b.2 in
    let d = step_told (narrow (common_den x y)) _ r s.2 in
    let den = (narrow-some (common_den x y) d.0 d.1).1 in
    record {
      left = record { top = num_below x y a.0 a.1; bottom = left_below x y den };
      right = record { top = num_below y x b.0 b.1; bottom = right_below x y den };
      made = narrow_made (x +ℚ y) r d.2;
    }

-- a sum over a row, from a number in width on
pub row_sum_made : (z : List ℚ) (acc r : ℚ) (row : List Entry) → IsNarrow acc → Some r ≡ written_sum z acc row → IsNarrow r
row_sum_made z acc r [] n e = let same : r ≡ acc = cc in subst IsNarrow (sym same) n
row_sum_made z acc r (x ∷ row) n e =
    let term = step_told (written_mul x.prob (value_at z x.target)) _ r e in
    let sum = step_told (written_add acc term.0) _ r term.2 in
    row_sum_made z sum.0 r row (sum_took acc term.0 sum.0 sum.1).made sum.2

-- ---- a number that is compared with 1

pub compared_with_one : (x : ℚ) → IsSome (written_compare x (of_int (pos 1))) → IsNarrow x
unfolding written_compare of_int
compared_with_one x told =
    let one : ℚ = of_int (pos 1) in
    let o = there (written_compare x one) told in
    let a = step_told (narrow (across x one)) _ o.0 o.1 in
    let b = step_told (narrow (across one x)) _ o.0 a.2 in
    let common : gcd 1 x.den ≡ 1 = gcd_comm 1 x.den ∙ gcd-one_right x.den in
    let whole : x.den / gcd 1 x.den ≡ x.den = ap (λ (g : ℕ). x.den / g) common ∙ div-one x.den in
    record {
      top = num_below x one a.0 a.1;
      bottom =
          let n = (narrow-some (across one x) b.0 b.1).1 in
          subst (λ (n : ℕ). n < 2 ^ 127) whole (factor_below (x.den / gcd 1 x.den) 1 (omega arith) (subst (λ (k : ℕ). k < 2 ^ 127) (unsigned_abs-mul (pos 1) (pos (x.den / gcd 1 x.den)) ∙ omega arith) n));
    }
  where
    there : {A : Type 0} (o : Option A) → IsSome o → (a : A) × (Some a ≡ o)
    there None h = absurd (false≢true h)
    there (Some a) h = (a, refl)

-- ---- other numbers

pub whole_narrow : (n : ℕ) → n < 2 ^ 127 → IsNarrow (of_int (pos n))
unfolding of_int
whole_narrow n h = record { top = h; bottom = lit< tt }

-- a reward of a model
pub small_narrow : (x : ℚ) → HasSmallTerms x → IsNarrow x
small_narrow x h =
    let p : limit < 2 ^ 127 = lit< tt in
    let a = h.num in
    let b = h.den in
    record { top = omega (arith, a, p); bottom = omega (arith, b, p) }

abs-neg : (z : ℤ) → unsigned_abs (neg_ℤ z) ≡ unsigned_abs z
abs-neg (pos zero) = refl
abs-neg (pos (suc n)) = refl
abs-neg (negsuc n) = refl

neg_narrow : (x : ℚ) → IsNarrow x → IsNarrow (neg_ℚ x)
neg_narrow x n = record {
  top = subst (λ (z : ℕ). z < 2 ^ 127) (sym (ap unsigned_abs (num-neg x) ∙ abs-neg x.num)) n.top;
  bottom = subst (λ (z : ℕ). z < 2 ^ 127) (sym (den-neg x)) n.bottom;
}

pub greatest_narrow : (x : ℚ) (xs : List ℚ) → All IsNarrow (x ∷ xs) → IsNarrow (greatest (x ∷ xs))
greatest_narrow x xs h = All-contains IsNarrow (x ∷ xs) (greatest (x ∷ xs)) h (greatest-in x xs)

pub magnitude_narrow : (x : ℚ) → IsNarrow x → IsNarrow (greatest (x ∷ neg_ℚ x ∷ []))
magnitude_narrow x n = greatest_narrow x (neg_ℚ x ∷ []) (All-from_recursion IsNarrow (x ∷ neg_ℚ x ∷ []) (n, (neg_narrow x n, tt)))

-- ---- between what limits a small number lies

times-one : (z : ℤ) → z *ℤ pos 1 ≡ z
times-one z = ring int_ring 1 (λ x. x ⊗ lit (pos 1)) (λ x. x) refl z

below_limit : (z : ℤ) (k d : ℕ) → unsigned_abs z ≤ k → 0 < d → (z *ℤ pos 1) ≤ℤ (pos k *ℤ pos d)
below_limit z k d h some = let one = times-one z in let l = le-mul_of_pos_right k some in by z h one l
  where
    by : (z : ℤ) → unsigned_abs z ≤ k → z *ℤ pos 1 ≡ z → k ≤ k * d → (z *ℤ pos 1) ≤ℤ (pos k *ℤ pos d)
    by (pos n) h e l = subst (λ (y : ℤ). y ≤ℤ pos (k * d)) (sym e) (let m : n ≤ k * d = omega (arith, h, l) in omega (arith, ints, m))
    by (negsuc n) h e l = subst (λ (y : ℤ). y ≤ℤ pos (k * d)) (sym e) (omega (arith, ints))

pub most : ℚ
most = of_int (pos limit)

pub small_le_most : (x : ℚ) → HasSmallTerms x → x ≤ℚ most
unfolding most of_int
small_le_most x h = across_le x (of_int (pos limit)) (below_limit x.num limit x.den h.num (den-pos x))

neg_small : (x : ℚ) → HasSmallTerms x → HasSmallTerms (neg_ℚ x)
neg_small x h = record {
  num = subst (λ (z : ℕ). z ≤ limit) (sym (ap unsigned_abs (num-neg x) ∙ abs-neg x.num)) h.num;
  den = subst (λ (z : ℕ). z ≤ limit) (sym (den-neg x)) h.den;
}

pub least_le_small : (x : ℚ) → HasSmallTerms x → neg_ℚ most ≤ℚ x
least_le_small x h = linear 2 (λ x y. ⊖ y) (λ x y. x) (λ x y. known (⊖ x) y ∷ []) refl x most (small_le_most (neg_ℚ x) (neg_small x h))

pub most_narrow : IsNarrow most
unfolding most
most_narrow = whole_narrow limit (lit< tt)

pub least_narrow : IsNarrow (neg_ℚ most)
least_narrow = neg_narrow most most_narrow

-- Worked rows, by computation.
use Rattle.std.proofs.Common.{◌≡◌, ℕ, ◌<◌, ◌-◌, ◌^◌, ◌/◌, ◌%◌, false, not, ◌||◌, cond, eqb, List, [], ◌∷◌, Option, Some, None, Ok, Err, refl, sym, ap, subst, ◌∙◌, arith, lit<}
use Rattle.std.proofs.{Common.{ℤ, pos, negsuc, ◌+ℤ◌, ◌*ℤ◌, unsigned_abs}, lemmas.Fmt.{decimal_digit}}
use Rattle.std.specs.Prelude.{codes, map, replicate}
use Rattle.mdp_math.specs.{Gcd.{gcd, gcd_comm, gcd-mod, gcd-zero, gcd-one_right}, Rational.{ℚ, ratio, of_int, ◌+ℚ◌}}
use Rattle.mdp_math.specs.Written.{narrow, narrow_ℚ, written_add, ◌>>=◌}
use Rattle.mdp_math.proofs.{Laws.{same_is, is_ratio, num-ratio, den-ratio}, Written.{narrow_ℚ-kept, narrow_ℚ-past_num}}
use Rattle.mdp_num.specs.{Value.{quotient, spelling, IsOver}, Numeral.{numeral_of, parts_of, limit}, Canonical.{canonical_of}}
use Rattle.mdp_num.specs.{declared.errors.NumeralError.{NumeralError}, declared.errors.NumeralError.TheVariants.{Shape, ZeroDen, Large}}
use Rattle.mdp_num.proofs.{Meaning.{ratio_same}, Over.{over-whole}}

-- ---- numerals

-- 2.50 is 5/2
places : numeral_of (codes "2.50") ≡ Ok (ratio (pos 5) 2)
unfolding numeral_of parts_of
places = ap Ok (ratio_same 25 10 5 2 (lit< tt) (lit< tt) refl)

-- 12.5e-3 is 1/80
both_powers : numeral_of (codes "12.5e-3") ≡ Ok (ratio (pos 1) 80)
unfolding numeral_of parts_of
both_powers = ap Ok (ratio_same 125 10000 1 80 (lit< tt) (lit< tt) refl)

-- numerals, and the numerators and denominators of what they mean
abbrev numerals : List (List ℕ × (ℤ × ℕ))
numerals =
    (codes "1e-05", (pos 1, 100000)) ∷
    (codes "1E+2", (pos 100, 1)) ∷
    (codes "0e999", (pos 0, 1)) ∷
    (codes "000.000", (pos 0, 1)) ∷
    (codes "007", (pos 7, 1)) ∷
    -- the greatest and the least powers of ten, and the limit with a place that counts nothing
    (codes "1e36", (pos (10 ^ 36), 1)) ∷
    (codes "1e-36", (pos 1, 10 ^ 36)) ∷
    (codes "1000000000000000000000000000000000000.0", (pos limit, 1)) ∷
    []

are_read : map (λ c. numeral_of c.0) numerals ≡ map (λ c. Ok (ratio c.1.0 c.1.1)) numerals
unfolding numeral_of parts_of
are_read = refl

-- what is refused, and why
abbrev refused : List (List ℕ × NumeralError)
refused =
    (codes "1e37", Large) ∷
    (codes "1e-37", Large) ∷
    (codes "1000000000000000000000000000000000001", Large) ∷
    (codes "1/0", ZeroDen) ∷
    -- the denominator of 0 is seen before the great number
    (codes "1000000000000000000000000000000000001/0", ZeroDen) ∷
    (codes ".5", Shape) ∷
    (codes "5.", Shape) ∷
    (codes "1 /2", Shape) ∷
    ([], Shape) ∷
    (codes "-1", Shape) ∷
    (codes "1e", Shape) ∷
    (codes "1e+-1", Shape) ∷
    (codes "1.5/2", Shape) ∷
    []

are_refused : map (λ c. numeral_of c.0) refused ≡ map (λ c. Err c.1) refused
unfolding numeral_of parts_of
are_refused = refl

-- ---- making a fraction

-- a lowest fraction in width is kept
kept : (n : ℤ) (d : ℕ) → 0 < d → gcd (unsigned_abs n) d ≡ 1 → unsigned_abs n < 2 ^ 127 → d < 2 ^ 127 → narrow_ℚ (ratio n d) ≡ Some (ratio n d)
kept n d some lowest p q =
    narrow_ℚ-kept (ratio n d)
    (subst (λ (z : ℤ). unsigned_abs z < 2 ^ 127) (sym (num-ratio n d some lowest)) p)
    (subst (λ (k : ℕ). k < 2 ^ 127) (sym (den-ratio n d some lowest)) q)

-- 6/-4 is -3/2
six_over_minus_four : narrow_ℚ (quotient (pos 6) (negsuc 3)) ≡ Some (ratio (negsuc 2) 2)
six_over_minus_four =
    ap narrow_ℚ (same_is (ratio (negsuc 5) 4) (ratio (negsuc 2) 2) (negsuc 5) (negsuc 2) 4 2 (is_ratio (negsuc 5) 4 (lit< tt)) (is_ratio (negsuc 2) 2 (lit< tt)) refl)
    ∙ kept (negsuc 2) 2 (lit< tt) (gcd-mod 3 2 ∙ gcd-mod 2 1 ∙ gcd-zero 1) (lit< tt) (lit< tt)

-- -2 ^ 127 is past width
past_width : narrow_ℚ (quotient (negsuc (2 ^ 127 - 1)) (pos 1)) ≡ None
past_width =
    let e : unsigned_abs (ℚ.num (ratio (negsuc (2 ^ 127 - 1)) 1)) ≡ 2 ^ 127 = ap unsigned_abs (num-ratio (negsuc (2 ^ 127 - 1)) 1 (lit< tt) (gcd-one_right (2 ^ 127))) in
    narrow_ℚ-past_num (ratio (negsuc (2 ^ 127 - 1)) 1) (omega (arith, e))

-- 1 and the greatest whole number have no sum in width
no_sum : written_add (of_int (pos 1)) (of_int (pos (2 ^ 127 - 1))) ≡ None
unfolding written_add narrow of_int
no_sum = ap sum_by (gcd-one_right 1)
  where
    sum_by : ℕ → Option ℚ
    sum_by g =
        narrow (pos 1 *ℤ pos (1 / g)) >>= λ left. narrow (pos (2 ^ 127 - 1) *ℤ pos (1 / g)) >>= λ right. narrow (left +ℤ right) >>= λ sum.
        narrow (pos (1 / g) *ℤ pos 1) >>= λ den. narrow_ℚ (of_int (pos 1) +ℚ of_int (pos (2 ^ 127 - 1)))

-- ---- the canonical spelling

minus_seven : spelling (of_int (negsuc 6)) ≡ codes "-7"
unfolding spelling of_int
minus_seven = ap (λ (text : List ℕ). 45 ∷ text) (decimal_digit 7 (lit< tt))

minus_ten_thirds : canonical_of (codes "-10/3") ≡ Some (ratio (negsuc 9) 3)
unfolding canonical_of
minus_ten_thirds = ap (λ (g : ℕ). cond (false || not (eqb g 1)) None (Some (ratio (negsuc 9) 3))) (gcd-mod 10 3 ∙ gcd-mod 3 1 ∙ gcd-zero 1)

not_lowest : canonical_of (codes "2/4") ≡ None
unfolding canonical_of
not_lowest = ap (λ (g : ℕ). cond (false || not (eqb g 1)) None (Some (ratio (pos 2) 4))) (gcd-mod 2 4 ∙ gcd-mod 4 2 ∙ gcd-zero 2)

-- not canonical: a sign of 0, a plus, a 0 in front, a denominator of 1 or of 0, a number past 127 bits, and nothing
not_canonical :
    map canonical_of (
    codes "-0" ∷ codes "+1" ∷ codes "01" ∷ codes "1/1" ∷ codes "1/0" ∷ codes "170141183460469231731687303715884105728" ∷ [] ∷ []
    ) ≡ replicate 7 None
unfolding canonical_of
not_canonical = refl

-- ---- numbers over other denominators

-- 1/2 is 3/6
half_of_six : IsOver (ratio (pos 1) 2) 6 (pos 3)
half_of_six = record { long = record { sfits = lit< tt }; same = ratio_same 1 2 3 6 (lit< tt) (lit< tt) refl }

-- but no n/3
half_of_three : (n : ℤ) → IsOver (ratio (pos 1) 2) 3 n → ⊥
half_of_three n o =
    let e : 3 % ℚ.den (ratio (pos 1) 2) ≡ 0 = over-whole (ratio (pos 1) 2) n 3 (lit< tt) o.same in
    let d : ℚ.den (ratio (pos 1) 2) ≡ 2 = den-ratio (pos 1) 2 (lit< tt) (gcd_comm 1 2 ∙ gcd-one_right 2) in
    let f : 3 % 2 ≡ 0 = ap (λ (k : ℕ). 3 % k) (sym d) ∙ e in
    omega (arith, f)

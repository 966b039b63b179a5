-- A row's values divided by their sum.
use Rattle.std.proofs.Common.{◌≡◌, ◌≢◌, ℕ, zero, suc, ◌*◌, ◌/◌, ◌<◌, ◌≤◌, Some, mul-pos, List, [], ◌∷◌, length, map, get_or, slice_set, pos}
use Rattle.std.proofs.{Common.{unsigned_abs, refl, sym, ap, ap₂, subst, ◌∙◌, arith, mul_comm}, lemmas.Int.{ints}, lemmas.List.{length-map, get_or_default}}
use Rattle.std.specs.{Int.{◌∣◌}, List.{AllByRecursion}}
use Rattle.mdp_math.specs.Rational.{ℚ, ratio, inv_ℚ, ◌*ℚ◌, ◌≤ℚ◌}
use Rattle.mdp_math.proofs.{Laws.{is_self, is_ratio, is_of_int, same_is}, Order.{0ℚ, 1ℚ, is_le, le_of_is, ratio-mul, ratio-nonneg, mul-inv, mul-left_cancel_ℚ}}
use Rattle.mdp_math.proofs.Lcm.{lcm-left, lcm-right}
use Rattle.mdp_num.specs.{Meaning.{IsWithinLimit}, Numeral.{limit}}
use Rattle.mdp_spec.specs.{Mdp.{Entry}, Unit.{row_den}}
use Rattle.mdp_rows.specs.{Draft.{row_total, scaled_row}, Given.{row_of, entry_of}, Parts.{part, parts}, declared.given.Given.{Given}}
use Rattle.mdp_spec.proofs.Units.{row_den-pos}
use Rattle.mdp_rows.proofs.{ClosedRows.Denominators.{row_den-all}, ClosedRows.Parts.{part_is, part_le, den_of_value, sum_parts}, Assembled.Targets.{targets}}
use native.Mathlib.Nat.{le_of_dvd, dvd_trans, dvd-mul_left}

-- ---- one value

not_zero : (p d : ℕ) → 0 < p → 0 < d → ratio (pos p) d ≢ 0ℚ
not_zero p d h k e =
    let a = is_le (ratio (pos p) d) 0ℚ (pos p) (pos 0) d 1 (is_ratio (pos p) d k) (is_of_int (pos 0))
    (subst (λ (x : ℚ). ratio (pos p) d ≤ℚ x) e (le_of_is _ _ _ _ _ _ (is_self (ratio (pos p) d)) (is_self (ratio (pos p) d)) (omega (arith, ints)))) in
    omega (arith, ints, a)

-- p/d times d/p
flipped_one : (p d : ℕ) → 0 < p → 0 < d → ratio (pos p) d *ℚ ratio (pos d) p ≡ 1ℚ
flipped_one p d h k =
    let n : 0 < d * p = (let z : 0 < d * p = mul-pos k h in z) in
    ratio-mul p d d p k h ∙ same_is _ _ _ _ _ _ (is_ratio (pos (p * d)) (d * p) n) (is_of_int (pos 1)) (ap (λ (m : ℕ). pos m) (let c = mul_comm p d in omega arith))

inverse_is : (p d : ℕ) → 0 < p → 0 < d → inv_ℚ (ratio (pos p) d) ≡ ratio (pos d) p
inverse_is p d h k =
    mul-left_cancel_ℚ (ratio (pos p) d) (inv_ℚ (ratio (pos p) d)) (ratio (pos d) p) (not_zero p d h k)
    (mul-inv (ratio (pos p) d) (not_zero p d h k) ∙ sym (flipped_one p d h k))

shuffle : (n d p : ℕ) → n * d * p ≡ n * (d * p)
shuffle n d p = omega arith

-- a value that is n/d, divided by p/d, is n/p
pub divided : (d p : ℕ) (g : Given) → 0 < d → 0 < p → g.value.den ∣ d → g.value *ℚ inv_ℚ (ratio (pos p) d) ≡ ratio (pos (part d g)) p
divided d p g h k l =
    let n : 0 < d * p = mul-pos h k in
    ap₂ ◌*ℚ◌ (part_is d g h l) (inverse_is p d k h)
    ∙ ratio-mul (part d g) d d p h k
    ∙ same_is _ _ _ _ _ _ (is_ratio (pos (part d g * d)) (d * p) n) (is_ratio (pos (part d g)) p k) (ap (λ (m : ℕ). pos m) (shuffle (part d g) d p))

pub some_same : (x y : ℚ) → Some x ≡ Some y → x ≡ y
some_same x y e = cc

pub divided_by : (d p : ℕ) (g : Given) → 0 < d → 0 < p → d / g.value.den * g.value.den ≡ d → g.value *ℚ inv_ℚ (ratio (pos p) d) ≡ ratio (pos (part d g)) p
divided_by d p g h k l = divided d p g h k (subst (λ (n : ℕ). g.value.den ∣ n) l (dvd-mul_left g.value.den (d / g.value.den)))

-- a fraction of at most 1 has no greater numerator than denominator
num-le : (n p : ℕ) → 0 < p → n ≤ p → unsigned_abs (ℚ.num (ratio (pos n) p)) ≤ ℚ.den (ratio (pos n) p)
num-le n p h k =
    let x : ℚ = ratio (pos n) p in
    let l : x ≤ℚ 1ℚ = le_of_is x 1ℚ (pos n) (pos 1) p 1 (is_ratio (pos n) p h) (is_of_int (pos 1)) (omega (arith, ints)) in
    let a = is_le x 1ℚ x.num (pos 1) x.den 1 (is_self x) (is_of_int (pos 1)) l in
    let z = is_le 0ℚ x (pos 0) x.num 1 x.den (is_of_int (pos 0)) (is_self x) (ratio-nonneg n p h) in
    omega (arith, ints, a, z)

pub within_terms : (n p : ℕ) → 0 < p → n ≤ p → ℚ.den (ratio (pos n) p) ≤ limit → IsWithinLimit (ratio (pos n) p)
within_terms n p h k l = let m = num-le n p h k in record { nonnegative = ratio-nonneg n p h; num = omega arith; den = l }

-- ---- one value after the other

-- the first so many values divided
abbrev pub scaled_to : (Entry → Entry) → ℕ → List Entry → List Entry
scaled_to f zero row = row
scaled_to f (suc i) [] = []
scaled_to f (suc i) (x ∷ row) = f x ∷ scaled_to f i row

tail_of : (x y : Entry) (xs ys : List Entry) → x ∷ xs ≡ y ∷ ys → xs ≡ ys
tail_of x y xs ys e = cc

head_of : (x y : Entry) (xs ys : List Entry) → x ∷ xs ≡ y ∷ ys → x ≡ y
head_of x y xs ys e = cc

pub still_there : (f : Entry → Entry) (i : ℕ) (rows : List Given) (row : List Entry) (g : Given) (d : Entry) → i < length rows → row_of rows ≡ scaled_to f i row
    → entry_of (get_or rows i g) ≡ get_or row i d
still_there f i [] row g d h e = absurd (omega arith)
still_there f zero (x ∷ rows) [] g d h e = absurd cc
still_there f zero (x ∷ rows) (y ∷ row) g d h e = head_of (entry_of x) y (row_of rows) row e
still_there f (suc i) (x ∷ rows) [] g d h e = absurd cc
still_there f (suc i) (x ∷ rows) (y ∷ row) g d h e = still_there f i rows row g d (omega arith) (tail_of (entry_of x) (f y) (row_of rows) (scaled_to f i row) e)

pub one_more : (f : Entry → Entry) (i : ℕ) (rows : List Given) (row : List Entry) (g : Given) (d : Entry) → i < length rows → row_of rows ≡ scaled_to f i row
    → entry_of g ≡ f (get_or row i d) → row_of (slice_set rows i g) ≡ scaled_to f (suc i) row
one_more f i [] row g d h e k = absurd (omega arith)
one_more f zero (x ∷ rows) [] g d h e k = absurd cc
one_more f zero (x ∷ rows) (y ∷ row) g d h e k = ap₂ (λ (u : Entry) (v : List Entry). u ∷ v) k (tail_of (entry_of x) y (row_of rows) row e)
one_more f (suc i) (x ∷ rows) [] g d h e k = absurd cc
one_more f (suc i) (x ∷ rows) (y ∷ row) g d h e k =
    ap₂ (λ (u : Entry) (v : List Entry). u ∷ v) (head_of (entry_of x) (f y) (row_of rows) (scaled_to f i row) e)
    (one_more f i rows row g d (omega arith) (tail_of (entry_of x) (f y) (row_of rows) (scaled_to f i row) e) k)

pub all_scaled : (f : Entry → Entry) (i : ℕ) (row : List Entry) → i ≡ length row → scaled_to f i row ≡ map f row
all_scaled f zero [] e = refl
all_scaled f zero (x ∷ row) e = absurd (omega arith)
all_scaled f (suc i) [] e = refl
all_scaled f (suc i) (x ∷ row) e = ap (λ (r : List Entry). f x ∷ r) (all_scaled f i row (omega arith))

pub targets_kept : (f : Entry → Entry) (i : ℕ) (row : List Entry) → ((x : Entry) → (f x).target ≡ x.target) → map (λ x. x.target) (scaled_to f i row) ≡ map (λ x. x.target) row
targets_kept f zero row h = refl
targets_kept f (suc i) [] h = refl
targets_kept f (suc i) (x ∷ row) h = ap₂ (λ (t : ℕ) (ts : List ℕ). t ∷ ts) (h x) (targets_kept f i row h)

pub targets_of : (rows : List Given) → targets rows ≡ map (λ x. x.target) (row_of rows)
targets_of [] = refl
targets_of (g ∷ rows) = ap (λ (ts : List ℕ). g.target ∷ ts) (targets_of rows)

-- ---- a row

-- an entry with its value divided by x
abbrev pub over : ℚ → Entry → Entry
over x y = record { target = y.target; prob = y.prob *ℚ inv_ℚ x }

den_at : (row : List Entry) (i : ℕ) (d : Entry) → i < length row → ℚ.den (Entry.prob (get_or row i d)) ∣ row_den row
den_at [] i d h = absurd (omega arith)
den_at (x ∷ row) zero d h = lcm-right (row_den row) x.prob.den
den_at (x ∷ row) (suc i) d h = dvd_trans (ℚ.den (Entry.prob (get_or row i d))) (den_at row i d (omega arith)) (lcm-left (row_den row) x.prob.den)

pub den_at-le : (row : List Entry) (i : ℕ) (d : Entry) → i < length row → ℚ.den (Entry.prob (get_or row i d)) ≤ row_den row
den_at-le row i d h = le_of_dvd (row_den-pos row) (den_at row i d h)

get_or-map_over : (x : ℚ) (row : List Entry) (i : ℕ) (d : Entry) → i < length row → get_or (map (over x) row) i d ≡ over x (get_or row i d)
get_or-map_over x [] i d h = absurd (omega arith)
get_or-map_over x (y ∷ row) zero d h = refl
get_or-map_over x (y ∷ row) (suc i) d h = get_or-map_over x row i d (omega arith)

length-over : (x : ℚ) (row : List Entry) → length (map (over x) row) ≡ length row
length-over x [] = refl
length-over x (y ∷ row) = ap (λ n. suc n) (length-over x row)

-- a value that is too wide after the division makes the row too wide
pub wide_at : (row : List Entry) (i : ℕ) (y : Entry) (t : ℚ) → i < length row → y ≡ get_or row i y → t ≡ row_total row → limit < ℚ.den (y.prob *ℚ inv_ℚ t) → limit < row_den (scaled_row row)
wide_at row i y t h is e w =
    let l = den_at-le (map (over (row_total row)) row) i y (let n = length-over (row_total row) row in omega arith) in
    let v : ℚ.den (Entry.prob (get_or (map (over (row_total row)) row) i y)) ≡ ℚ.den (y.prob *ℚ inv_ℚ t) =
    ap (λ (z : Entry). z.prob.den) (get_or-map_over (row_total row) row i y h ∙ ap (over (row_total row)) (sym is)) ∙ ap (λ (x : ℚ). ℚ.den (y.prob *ℚ inv_ℚ x)) (sym e) in
    omega arith

-- ---- the row while its values are divided, one after the other

get_or-row_of : (row : List Given) (i : ℕ) (g : Given) → get_or (row_of row) i (entry_of g) ≡ entry_of (get_or row i g)
get_or-row_of [] i g = refl
get_or-row_of (x ∷ row) zero g = refl
get_or-row_of (x ∷ row) (suc i) g = get_or-row_of row i g

same_entry : (x y : Entry) → x.target ≡ y.target → x.prob ≡ y.prob → x ≡ y
same_entry x y t p = λ j. record { target = t j; prob = p j }

-- what the values are divided by
pub total_is : (row : List Given) (d n : ℕ) → d ≡ row_den (row_of row) → n ≡ parts d row → ratio (pos n) d ≡ row_total (row_of row)
total_is row d n e f =
    let h : 0 < d = rw e (row_den-pos (row_of row)) in
    let all : AllByRecursion (λ x. x.prob.den ∣ d) (row_of row) = rw e (row_den-all (row_of row)) in
    ap (λ (k : ℕ). ratio (pos k) d) f ∙ sym (sum_parts d row h all)

module _ (row rows : List Given) (i d n : ℕ) (common : d ≡ row_den (row_of row)) (sum : n ≡ parts d row) (here : i < length rows) (as_many : length rows ≡ length row)
    (so : row_of rows ≡ scaled_to (over (row_total (row_of row))) i (row_of row)) where
  pub value_there : (g : Given) → Given.value (get_or rows i g) ≡ Given.value (get_or row i g)
  value_there g =
      ap (λ (x : Entry). x.prob) (still_there (over (row_total (row_of row))) i rows (row_of row) g (entry_of g) here so ∙ get_or-row_of row i g)

  in_row : i < length row
  in_row = omega arith

  same_default : (g : Given) → get_or row i g ≡ get_or row i (get_or row i g)
  same_default g = get_or_default row i g (get_or row i g) in_row

  pub divides_there : (g : Given) → d / (let x : Given = get_or rows i g in x.value.den) * (let x : Given = get_or rows i g in x.value.den) ≡ d
  divides_there g = rw (value_there g) (den_of_value row d i (get_or row i g) common in_row (same_default g))

  pub within_there : (g : Given) → part d (get_or rows i g) ≤ n
  within_there g =
      let p = part_le row d i (get_or row i g) in_row (same_default g) in
      let e : part d (get_or rows i g) ≡ part d (get_or row i g) = ap (λ (v : ℚ). d / v.den * unsigned_abs v.num) (value_there g) in
      omega (arith, e, p, sum)

  pub wide_there : (g : Given) → limit < ℚ.den (Given.value (get_or rows i g) *ℚ inv_ℚ (ratio (pos n) d)) → limit < row_den (scaled_row (row_of row))
  wide_there g h =
      wide_at (row_of row) i (entry_of (get_or row i g)) (ratio (pos n) d) (let m : length (row_of row) ≡ length row = length-map row entry_of in let k = in_row in omega arith)
      (ap entry_of (same_default g) ∙ sym (get_or-row_of row i (get_or row i g))) (total_is row d n common sum)
      (subst (λ (v : ℚ). limit < ℚ.den (v *ℚ inv_ℚ (ratio (pos n) d))) (value_there g) h)

  pub one_there : (g h new : Given) → new.target ≡ Given.target (get_or rows i g) → new.value ≡ Given.value (get_or rows i h) *ℚ inv_ℚ (ratio (pos n) d)
      → row_of (slice_set rows i new) ≡ scaled_to (over (row_total (row_of row))) (suc i) (row_of row)
  one_there g h new t v =
      one_more (over (row_total (row_of row))) i rows (row_of row) new (entry_of g) here so
      (same_entry _ _ (t ∙ ap (λ (x : Entry). x.target) (still_there (over (row_total (row_of row))) i rows (row_of row) g (entry_of g) here so))
      (v ∙ ap₂ (λ (x y : ℚ). x *ℚ inv_ℚ y) (ap (λ (x : Entry). x.prob) (still_there (over (row_total (row_of row))) i rows (row_of row) h (entry_of g) here so)) (total_is row d n common sum)))

pub targets_there : (row rows : List Given) (i : ℕ) → row_of rows ≡ scaled_to (over (row_total (row_of row))) i (row_of row) → targets rows ≡ targets row
targets_there row rows i so =
    targets_of rows ∙ ap (map (λ (x : Entry). x.target)) so ∙ targets_kept (over (row_total (row_of row))) i (row_of row) (λ x. refl) ∙ sym (targets_of row)

pub scaled_all : (row rows : List Given) (i : ℕ) → i ≡ length row → row_of rows ≡ scaled_to (over (row_total (row_of row))) i (row_of row) → row_of rows ≡ scaled_row (row_of row)
scaled_all row rows i e so = so ∙ all_scaled (over (row_total (row_of row))) i (row_of row) (e ∙ sym (length-map row entry_of))

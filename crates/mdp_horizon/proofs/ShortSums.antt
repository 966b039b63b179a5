-- Sums of short entries over values of 64 bits stay in width.
use Rattle.std.proofs.Common.{◌≡◌, ◌∙◌, ℕ, ◌+◌, ◌*◌, ◌<◌, ◌≤◌, ◌^◌, List, ◌∷◌, length, get_or, drop, Option, Some, sym, ap, ap₂, subst, arith, ℤ, pos, ◌+ℤ◌, ◌*ℤ◌, unsigned_abs, FitsSigned}
use Rattle.std.proofs.{lemmas.Int.{ints, unsigned_abs-mul, fits_signed_from_abs}, lemmas.List.{get_or-map}, Math.Nat.{mul-le-mul_left}}
use mir.Syntax.{w128}
use Rattle.mdp_math.specs.Written.{narrow, ◌>>=◌}
use Rattle.mdp_math.proofs.Written.{narrow-kept}
use Rattle.mdp_horizon.specs.{declared.choice.ShortTerm.{ShortTerm}}
use Rattle.mdp_horizon.specs.{Scaled.{total_of}, Short.{wide_terms, weights_of, known}, Whole.{whole_at}}
use Rattle.mdp_horizon.proofs.Loops.{rest_of}

pub sum-most : (a b : ℤ) → unsigned_abs (a +ℤ b) ≤ unsigned_abs a + unsigned_abs b
sum-most a b = omega (arith, ints)

pub product-most : (w v : ℤ) → unsigned_abs v ≤ 2 ^ 63 → unsigned_abs (w *ℤ v) ≤ unsigned_abs w * 2 ^ 63
product-most w v h =
    let e = unsigned_abs-mul w v in
    let m : unsigned_abs w * unsigned_abs v ≤ unsigned_abs w * 2 ^ 63 = mul-le-mul_left (unsigned_abs w) h in
    omega (arith, e, m)

-- ---- as the code adds them

module _ (total w v : ℤ) (value : unsigned_abs v ≤ 2 ^ 63) (room : unsigned_abs total + unsigned_abs w * 2 ^ 63 ≤ 2 ^ 126) where
  pub sum_room : unsigned_abs (total +ℤ w *ℤ v) ≤ unsigned_abs total + unsigned_abs w * 2 ^ 63
  sum_room = let p = product-most w v value in let s = sum-most total (w *ℤ v) in omega (arith, p, s)

  pub product_narrow : unsigned_abs (w *ℤ v) < 2 ^ 127
  product_narrow = let p = product-most w v value in omega (arith, p, room)

  pub sum_narrow : unsigned_abs (total +ℤ w *ℤ v) < 2 ^ 127
  sum_narrow = let s = sum_room in omega (arith, s, room)

  pub product_fits : (a b : ℤ) → a ≡ w → b ≡ v → FitsSigned w128 (a *ℤ b)
  product_fits a b e f = subst (λ (z : ℤ). FitsSigned w128 z) (sym (ap₂ ◌*ℤ◌ e f)) (fits_signed_from_abs w128 (w *ℤ v) product_narrow)

  pub sum_fits : (a b : ℤ) → a ≡ total → b ≡ w *ℤ v → FitsSigned w128 (a +ℤ b)
  sum_fits a b e f = subst (λ (z : ℤ). FitsSigned w128 z) (sym (ap₂ ◌+ℤ◌ e f)) (fits_signed_from_abs w128 (total +ℤ w *ℤ v) sum_narrow)

-- ---- one entry more

pub short_step : (values : List ℤ) (t : ShortTerm) (ts : List ShortTerm) (total : ℤ) → t.target < length values → unsigned_abs (get_or values t.target (pos 0)) ≤ 2 ^ 63
    → unsigned_abs total + unsigned_abs t.weight * 2 ^ 63 ≤ 2 ^ 126
    → total_of (known values) total (wide_terms (t ∷ ts)) ≡ total_of (known values) (total +ℤ t.weight *ℤ get_or values t.target (pos 0)) (wide_terms ts)
short_step values t ts total l h r =
    let v : ℤ = get_or values t.target (pos 0) in
    let is : whole_at (known values) t.target ≡ Some v = get_or-map (λ (k : ℤ). let o : Option ℤ = Some k in o) values t.target (pos 0) (Some (pos 0)) l in
    ap (λ (o : Option ℤ). (o >>= (λ value. narrow (t.weight *ℤ value) >>= (λ product. narrow (total +ℤ product)))) >>= (λ sum. total_of (known values) sum (wide_terms ts))) is
    ∙ ap (λ (o : Option ℤ). (o >>= (λ product. narrow (total +ℤ product))) >>= (λ sum. total_of (known values) sum (wide_terms ts)))
    (narrow-kept (t.weight *ℤ v) (product_narrow total t.weight v h r))
    ∙ ap (λ (o : Option ℤ). o >>= (λ sum. total_of (known values) sum (wide_terms ts))) (narrow-kept (total +ℤ t.weight *ℤ v) (sum_narrow total t.weight v h r))

pub weights_at : (ts : List ShortTerm) (i : ℕ) (d : ShortTerm) → i < length ts → weights_of (drop i ts) ≡ unsigned_abs (ShortTerm.weight (get_or ts i d)) + weights_of (drop (i + 1) ts)
weights_at ts i d l = ap weights_of (rest_of ts i d l)

-- The entries of a row to any set of targets add up within width.
use Rattle.std.proofs.Common.{◌≡◌, inl, inr, ℕ, zero, suc, ◌+◌, ◌*◌, ◌/◌, ◌<◌, ◌≤◌, Bool, false, cond, List, [], ◌∷◌}
use Rattle.std.proofs.Common.{length, take, get_or, refl, sym, ap, ap₂, ◌∙◌, subst, arith, ℤ, pos, ◌+ℤ◌, ◌*ℤ◌, ◌≤ℤ◌, unsigned_abs, Some}
use Rattle.std.proofs.{lemmas.Bool.{cases_Bool}, lemmas.Int.{ints}}
use Rattle.std.proofs.Math.Nat.{dvd_trans, dvd_refl, one-dvd, dvd-mul_left, dvd-mul_right, mul-div_cancel', div-mul_cancel, le_of_dvd, eq_of_mul-eq-mul_left, mul-le-mul_right, div-le_self}
use Rattle.std.proofs.lemmas.List.Elements.{All-take}
use Rattle.std.specs.{Int.{◌∣◌}, List.{All}}
use Rattle.mdp_math.specs.{Gcd.{gcd, gcd_is, gcd-pos, gcd_scaled, lcm}, Rational.{ℚ, ratio, ◌+ℚ◌, ◌≤ℚ◌}, Sum.{sum_of, EachAt}}
use Rattle.mdp_math.specs.Written.{across, written_add, narrow, narrow_ℚ, signed}
use Rattle.mdp_math.proofs.{Kernel.{All-head, All-tail}, Laws.{den-pos, is_ratio, same_is, den-of_int, num-of_int, zero-+ℚ, +ℚ_comm}}
use Rattle.mdp_math.proofs.{Order.{0ℚ, 1ℚ, nonneg, le_across, add-le-add_ℚ, ≤ℚ_refl, ≤ℚ_trans, ≤ℚ_of_lt}, Sums.{sum_of-nonneg}, Whole.{one-pos}}
use Rattle.mdp_math.proofs.Written.{narrow-kept, narrow_ℚ-kept, written_add-by, signed_self, num-ratio_signed, den-ratio_signed, sum_across, common_den-pos}
use Rattle.mdp_num.specs.Numeral.{limit}
use Rattle.mdp_spec.specs.{Mdp.{Entry}, Row.{IsDistribution}, Unit.{row_den}}
use Rattle.mdp_spec.proofs.Units.{row-divides, row_den-pos}
use Rattle.mdp_ends.specs.Quotient.{mass_in}
use Rattle.mdp_ends.proofs.MergedRows.{mass-nonneg}

-- ---- numbers with a common denominator

cancelled : (g a d k : ℕ) → 0 < g → (d * g) ≡ (a * g) * k → d ≡ a * k
cancelled g a d k h e = eq_of_mul-eq-mul_left g h d (a * k) (omega (arith, e))

-- the least common multiple divides each common multiple
pub lcm_divides : (a b d : ℕ) → 0 < b → a ∣ d → b ∣ d → lcm a b ∣ d
lcm_divides a b d pb p q =
    let g : ℕ = gcd a b in
    let pg : 0 < g = gcd-pos a b pb in
    let ea : a / g * g ≡ a = div-mul_cancel g (gcd_is a b).0 in
    let e1 : b * (d / b) ≡ d = mul-div_cancel' b q in
    let e2 : a * (d / a) ≡ d = mul-div_cancel' a p in
    let ab : a * b ≡ lcm a b * g = (let k = ap (λ (x : ℕ). x * b) ea in omega (arith, k)) in
    let h1 : (lcm a b * g) ∣ (d * a) = subst (λ (x : ℕ). x ∣ (d * a)) ab (subst (λ (x : ℕ). (a * b) ∣ x) (let k = ap (λ (x : ℕ). x * a) e1 in omega (arith, k)) (dvd-mul_right (a * b) (d / b))) in
    let h2 : (lcm a b * g) ∣ (d * b) = subst (λ (x : ℕ). x ∣ (d * b)) ab (subst (λ (x : ℕ). (a * b) ∣ x) (let k = ap (λ (x : ℕ). x * b) e2 in omega (arith, k)) (dvd-mul_right (a * b) (d / a))) in
    let h3 : (lcm a b * g) ∣ (d * g) = (gcd_scaled a b d).2 (lcm a b * g) h1 h2 in
    let k : ℕ = d * g / (lcm a b * g) in
    let e3 : (lcm a b * g) * k ≡ d * g = mul-div_cancel' (lcm a b * g) h3 in
    subst (λ (x : ℕ). lcm a b ∣ x) (sym (cancelled g (lcm a b) d k pg (sym e3))) (dvd-mul_right (lcm a b) k)

-- between 0 and 1
pub record IsPart (x : ℚ) : Type 0 where
  pub nonneg : 0ℚ ≤ℚ x
  pub most : x ≤ℚ 1ℚ

num_of : (x : ℚ) → IsPart x → (n : ℕ) × (x.num ≡ pos n) × (n ≤ x.den)
num_of x p =
    let z : pos 0 ≤ℤ x.num = nonneg x p.nonneg in
    let e : x.num ≡ pos (unsigned_abs x.num) = omega (arith, ints) in
    let l : (x.num *ℤ pos 1) ≤ℤ (pos 1 *ℤ pos x.den) = subst (λ (k : ℕ). (x.num *ℤ pos k) ≤ℤ (pos 1 *ℤ pos x.den))
    (den-of_int (pos 1)) (subst (λ (k : ℤ). (x.num *ℤ pos (1ℚ).den) ≤ℤ (k *ℤ pos x.den)) (num-of_int (pos 1)) (le_across x 1ℚ p.most)) in
    (unsigned_abs x.num, e, omega (arith, ints))

-- a numerator of a part over a common denominator is at most that
record IsTop (x y : ℚ) (d : ℕ) : Type 0 where
  value : ℕ
  is : across x y ≡ pos value
  most : value ≤ d

top_of : (x y : ℚ) (d : ℕ) → IsPart x → 0 < d → x.den ∣ d → y.den ∣ d → IsTop x y d
top_of x y d p pd dx dy =
    let w = num_of x p in
    let g : ℕ = gcd x.den y.den in
    let k : ℕ = y.den / g in
    let l1 : w.0 * k ≤ x.den * k = mul-le-mul_right k w.2 in
    let e1 : x.den / g * g ≡ x.den = div-mul_cancel g (gcd_is x.den y.den).0 in
    let e2 : g * k ≡ y.den = mul-div_cancel' g (gcd_is x.den y.den).1 in
    let e3 : x.den * k ≡ lcm x.den y.den = (let a = ap (λ (z : ℕ). z * k) e1 in let b = ap (λ (z : ℕ). x.den / g * z) e2 in omega (arith, a, b)) in
    let l2 : lcm x.den y.den ≤ d = le_of_dvd pd (lcm_divides x.den y.den d (den-pos y) dx dy) in
    record { value = w.0 * k; is = ap (λ (z : ℤ). z *ℤ pos k) w.1; most = omega (arith, l1, e3, l2) }

-- ---- their sums

module _ (x y : ℚ) (d : ℕ) (p : IsPart x) (q : IsPart y) (pd : 0 < d) (dx : x.den ∣ d) (dy : y.den ∣ d) where
  left : IsTop x y d
  left = top_of x y d p pd dx dy

  right : IsTop y x d
  right = top_of y x d q pd dy dx

  below : ℕ
  below = x.den / gcd x.den y.den * y.den

  sum_is : x +ℚ y ≡ ratio (signed false (left.value + right.value)) below
  unfolding below
  sum_is =
      same_is _ _ _ _ _ _ (sum_across x y (x.den / gcd x.den y.den * y.den) refl (common_den-pos x y)) (is_ratio (pos (left.value + right.value)) (x.den / gcd x.den y.den * y.den) (common_den-pos x y))
      (ap₂ (λ (a b : ℤ). (a +ℤ b) *ℤ pos (x.den / gcd x.den y.den * y.den)) left.is right.is)

  below-divides : below ∣ d
  unfolding below
  below-divides = lcm_divides x.den y.den d (den-pos y) dx dy

  pub den-sum : (x +ℚ y).den ∣ d
  unfolding below
  den-sum =
      let e : (x +ℚ y).den ≡ below / gcd (left.value + right.value) below = ap (λ (z : ℚ). z.den) sum_is ∙ den-ratio_signed false (left.value + right.value) below (common_den-pos x y) in
      subst (λ (k : ℕ). k ∣ d) (sym e)
      (dvd_trans _ (subst (λ (k : ℕ). (below / gcd (left.value + right.value) below) ∣ k) (mul-div_cancel' (gcd (left.value + right.value) below) (gcd_is (left.value + right.value) below).1)
      (dvd-mul_left (below / gcd (left.value + right.value) below) (gcd (left.value + right.value) below))) below-divides)

  pub sum_fits : d ≤ limit → written_add x y ≡ Some (x +ℚ y)
  unfolding below
  sum_fits h =
      let n : ℕ = left.value + right.value in
      let hl = left.most in
      let hr = right.most in
      let hb = le_of_dvd pd below-divides in
      let hd = le_of_dvd pd den-sum in
      let e : ℚ.num (x +ℚ y) ≡ signed false (n / gcd n below) = ap (λ (z : ℚ). z.num) sum_is ∙ num-ratio_signed false n below (common_den-pos x y) in
      let hn = div-le_self n (gcd n below) in
      sym
      (written_add-by x y (pos left.value) (pos right.value) (pos n) (pos below) (sym (ap narrow left.is ∙ narrow-kept (pos left.value) (omega (arith, hl, h))))
      (sym (ap narrow right.is ∙ narrow-kept (pos right.value) (omega (arith, hr, h))))
      (sym (narrow-kept (pos n) (omega (arith, hl, hr, h)))) (sym (narrow-kept (pos below) (omega (arith, hb, h)))))
      ∙ ap narrow_ℚ (ap (λ (z : ℤ). ratio z below) (signed_self (pos n)) ∙ sym sum_is)
      ∙ narrow_ℚ-kept (x +ℚ y) (let k = ap unsigned_abs e in omega (arith, k, hn, hl, hr, h)) (omega (arith, hd, h))

-- ---- the entries of a row

-- probabilities of at least 0 that add to at most 1, with denominators that divide k
record IsSmall (row : List Entry) (k : ℕ) : Type 0 where
  nonneg : All (λ x. 0ℚ ≤ℚ x.prob) row
  most : sum_of (λ x. x.prob) row ≤ℚ 1ℚ
  dens : EachAt row (λ e x. x.prob.den ∣ k)

total-tail : (x : Entry) (row : List Entry) → 0ℚ ≤ℚ x.prob → sum_of (λ y. y.prob) row ≤ℚ sum_of (λ y. y.prob) (x ∷ row)
total-tail x row h = subst (λ (z : ℚ). z ≤ℚ sum_of (λ (y : Entry). y.prob) (x ∷ row)) (zero-+ℚ (sum_of (λ (y : Entry). y.prob) row))
    (add-le-add_ℚ 0ℚ x.prob (sum_of (λ (y : Entry). y.prob) row) (sum_of (λ (y : Entry). y.prob) row) h (≤ℚ_refl (sum_of (λ (y : Entry). y.prob) row)))

total-head : (x : Entry) (row : List Entry) → All (λ y. 0ℚ ≤ℚ y.prob) row → x.prob ≤ℚ sum_of (λ y. y.prob) (x ∷ row)
total-head x row h = subst (λ (z : ℚ). z ≤ℚ sum_of (λ (y : Entry). y.prob) (x ∷ row)) (+ℚ_comm x.prob 0ℚ ∙ zero-+ℚ x.prob)
    (add-le-add_ℚ x.prob x.prob 0ℚ (sum_of (λ (y : Entry). y.prob) row) (≤ℚ_refl x.prob) (sum_of-nonneg (λ (y : Entry). y.prob) row h))

small-tail : (x : Entry) (row : List Entry) (k : ℕ) → IsSmall (x ∷ row) k → IsSmall row k
small-tail x row k h = record {
  nonneg = All-tail (λ (y : Entry). 0ℚ ≤ℚ y.prob) x row h.nonneg;
  most = ≤ℚ_trans (sum_of (λ (y : Entry). y.prob) row) (sum_of (λ (y : Entry). y.prob) (x ∷ row)) 1ℚ (total-tail x row (All-head (λ (y : Entry). 0ℚ ≤ℚ y.prob) x row h.nonneg)) h.most;
  dens = h.dens.1;
}

head_part : (x : Entry) (row : List Entry) (k : ℕ) → IsSmall (x ∷ row) k → IsPart x.prob
head_part x row k h = record {
  nonneg = All-head (λ (y : Entry). 0ℚ ≤ℚ y.prob) x row h.nonneg;
  most = ≤ℚ_trans x.prob (sum_of (λ (y : Entry). y.prob) (x ∷ row)) 1ℚ (total-head x row (All-tail (λ (y : Entry). 0ℚ ≤ℚ y.prob) x row h.nonneg)) h.most;
}

zero_part : IsPart 0ℚ
zero_part = record { nonneg = ≤ℚ_refl 0ℚ; most = ≤ℚ_of_lt 0ℚ 1ℚ one-pos }

entry_part : (row : List Entry) (k i : ℕ) (e : Entry) → IsSmall row k → i < length row → IsPart (Entry.prob (get_or row i e)) × ((Entry.prob (get_or row i e)).den ∣ k)
entry_part [] k i e h l = absurd (omega (arith, l))
entry_part (x ∷ row) k zero e h l = (head_part x row k h, h.dens.0)
entry_part (x ∷ row) k (suc i) e h l = entry_part row k i e (small-tail x row k h) (omega (arith, l))

-- what a set of targets has of the first entries
taken_part : (set : ℕ → Bool) (row : List Entry) (k i : ℕ) → IsSmall row k → IsPart (mass_in set (take i row))
taken_part set row k i h = record {
  nonneg = mass-nonneg set (take i row) (All-take (λ (y : Entry). 0ℚ ≤ℚ y.prob) i row h.nonneg);
  most = ≤ℚ_trans (mass_in set (take i row)) (sum_of (λ (y : Entry). y.prob) row) 1ℚ (taken_le row i h.nonneg) h.most;
} where
  part_le : (x : Entry) → 0ℚ ≤ℚ x.prob → cond (set x.target) x.prob 0ℚ ≤ℚ x.prob
  part_le x z = elim (cases_Bool (set x.target)) as (λ _. cond (set x.target) x.prob 0ℚ ≤ℚ x.prob) [ inl e ↦ rw e (≤ℚ_refl x.prob) | inr e ↦ rw e z ]

  taken_le : (row : List Entry) (i : ℕ) → All (λ (y : Entry). 0ℚ ≤ℚ y.prob) row → mass_in set (take i row) ≤ℚ sum_of (λ y. y.prob) row
  taken_le [] zero z = ≤ℚ_refl 0ℚ
  taken_le [] (suc i) z = ≤ℚ_refl 0ℚ
  taken_le (x ∷ row) zero z = sum_of-nonneg (λ (y : Entry). y.prob) (x ∷ row) z
  taken_le (x ∷ row) (suc i) z =
      add-le-add_ℚ (cond (set x.target) x.prob 0ℚ) x.prob (mass_in set (take i row)) (sum_of (λ (y : Entry). y.prob) row)
      (part_le x (All-head (λ (y : Entry). 0ℚ ≤ℚ y.prob) x row z)) (taken_le row i (All-tail (λ (y : Entry). 0ℚ ≤ℚ y.prob) x row z))

zero-den : (k : ℕ) → (0ℚ).den ∣ k
zero-den k = subst (λ (n : ℕ). n ∣ k) (sym (den-of_int (pos 0))) (one-dvd k)

taken-den : (set : ℕ → Bool) (row : List Entry) (k i : ℕ) → 0 < k → IsSmall row k → (mass_in set (take i row)).den ∣ k
taken-den set [] k zero pk h = zero-den k
taken-den set [] k (suc i) pk h = zero-den k
taken-den set (x ∷ row) k zero pk h = zero-den k
taken-den set (x ∷ row) k (suc i) pk h =
    let rest = small-tail x row k h in
    den-sum (cond (set x.target) x.prob 0ℚ) (mass_in set (take i row)) k part (taken_part set row k i rest) pk den (taken-den set row k i pk rest) where
      part : IsPart (cond (set x.target) x.prob 0ℚ)
      part = elim (cases_Bool (set x.target)) as (λ _. IsPart (cond (set x.target) x.prob 0ℚ)) [ inl e ↦ rw e (head_part x row k h) | inr e ↦ rw e zero_part ]

      den : (cond (set x.target) x.prob 0ℚ).den ∣ k
      den = elim (cases_Bool (set x.target)) as (λ _. (cond (set x.target) x.prob 0ℚ).den ∣ k) [ inl e ↦ rw e h.dens.0 | inr e ↦ rw e (zero-den k) ]

-- one more entry
pub entry_fits : (set : ℕ → Bool) (row : List Entry) (i : ℕ) (e : Entry) → IsDistribution row → row_den row ≤ limit → i < length row
    → written_add (mass_in set (take i row)) (Entry.prob (get_or row i e)) ≡ Some (mass_in set (take i row) +ℚ Entry.prob (get_or row i e))
entry_fits set row i e d h l =
    let k : ℕ = row_den row in
    let small : IsSmall row k = record {
      nonneg = λ j y z. ≤ℚ_of_lt 0ℚ (Entry.prob (get_or row j y)) (d.positive j y z);
      most = subst (λ (z : ℚ). z ≤ℚ 1ℚ) (sym d.total) (≤ℚ_refl 1ℚ);
      dens = row-divides row k (dvd_refl k);
    } in
    let w = entry_part row k i e small l in
    sum_fits (mass_in set (take i row)) (Entry.prob (get_or row i e)) k (taken_part set row k i small) w.0 (row_den-pos row) (taken-den set row k i (row_den-pos row) small) w.1 h

-- What is rounded lies less than one beyond, to the side.
use Rattle.std.proofs.Common.{◌≡◌, ◌∙◌, ℕ, zero, suc, ◌*◌, ◌/◌, ◌<◌, ◌≤◌, ⊎_elim, [], ◌∷◌, refl, sym, ap, subst, arith, ℤ, pos, negsuc, ◌+ℤ◌, ◌*ℤ◌, neg_ℤ, ◌≤ℤ◌}
use Rattle.std.proofs.{lemmas.Int.{ints}, Common.{mod-lt}}
use Rattle.std.specs.Int.{int_div_euclid}
use native.Mathlib.Nat.{div-add-mod}
use Rattle.mdp_math.specs.{Integers.{neg_ℤ-*ℤ}, Rational.{ℚ, of_int, ◌+ℚ◌, ◌*ℚ◌, neg_ℚ, ◌≤ℚ◌, ◌<ℚ◌}}
use Rattle.mdp_math.proofs.{Laws.{of_int-+ℤ, of_int-*ℤ, same_is, is_of_int, is_neg, rat_ring}, Linear.{linear, linear_lt, equal, known}}
use Rattle.mdp_math.proofs.{Order.{0ℚ, 1ℚ, ≤ℚ_or_gt, clash_ℚ, mul-le-mul_left_ℚ, le_of_mul_left_ℚ, of_int-le, ≤ℚ_of_lt, sub-pos}, Ring.{◌⊕◌, ◌⊗◌, ⊖, lit, ring}}
use Rattle.mdp_math.proofs.Whole.{of_nat-pos, one-pos}
use Rattle.mdp_rows.specs.{declared.dir.Dir.{Dir}, declared.dir.Dir.TheVariants.{Max, Min}}
use Rattle.mdp_horizon.proofs.Directions.{NoBetter}
use Rattle.mdp_horizon.specs.Whole.{rounded}

-- ---- in whole numbers

quotient : (a d : ℕ) → 0 < d → (a / d * d ≤ a) × (a < suc (a / d) * d)
quotient a d h = let e = div-add-mod a d in let l = mod-lt a h in (omega arith, omega arith)

pub floor-le : (n : ℤ) (d : ℕ) → 0 < d → (int_div_euclid n (pos d) *ℤ pos d) ≤ℤ n
floor-le (pos a) d h = let q = quotient a d h in omega (arith, ints)
floor-le (negsuc a) d h = let q = quotient a d h in let e = neg_ℤ-*ℤ (pos (suc (a / d))) (pos d) in omega (arith, ints, e)

one_up : (k : ℕ) → negsuc k +ℤ pos 1 ≡ neg_ℤ (pos k)
one_up zero = refl
one_up (suc k) = omega (arith, ints)

pub floor-gt : (n : ℤ) (d : ℕ) → 0 < d → (n +ℤ pos 1) ≤ℤ ((int_div_euclid n (pos d) +ℤ pos 1) *ℤ pos d)
floor-gt (pos a) d h = let q = quotient a d h in omega (arith, ints)
floor-gt (negsuc a) d h =
    let q = quotient a d h in
    subst (λ (x : ℤ). x ≤ℤ ((negsuc (a / d) +ℤ pos 1) *ℤ pos d)) (sym (one_up a))
    (subst (λ (x : ℤ). neg_ℤ (pos a) ≤ℤ x) (sym (ap (λ (x : ℤ). x *ℤ pos d) (one_up (a / d)) ∙ neg_ℤ-*ℤ (pos (a / d)) (pos d))) (omega (arith, ints)))

-- ---- in fractions

pub of_int-neg : (n : ℤ) → of_int (neg_ℤ n) ≡ neg_ℚ (of_int n)
of_int-neg n = same_is (of_int (neg_ℤ n)) (neg_ℚ (of_int n)) _ _ _ _ (is_of_int (neg_ℤ n)) (is_neg _ _ _ (is_of_int n)) refl

module _ (n : ℤ) (d : ℕ) (e : ℚ) (h : 0 < d) (is : of_int n ≡ of_int (pos d) *ℚ e) where
  floor-below : of_int (int_div_euclid n (pos d)) ≤ℚ e
  floor-below =
      let q : ℤ = int_div_euclid n (pos d) in
      le_of_mul_left_ℚ (of_int (pos d)) (of_int q) e (of_nat-pos d h)
      (linear 4 (λ d q m e. d ⊗ q) (λ d q m e. d ⊗ e) (λ d q m e. known (q ⊗ d) m ∷ equal (lit (pos 1)) m (d ⊗ e) ∷ []) refl (of_int (pos d)) (of_int q) (of_int n) e
      (subst (λ (x : ℚ). x ≤ℚ of_int n) (of_int-*ℤ q (pos d)) (of_int-le (q *ℤ pos d) n (floor-le n d h))) is)

  floor-close : e <ℚ of_int (int_div_euclid n (pos d)) +ℚ 1ℚ
  floor-close =
      let q : ℤ = int_div_euclid n (pos d) in
      ⊎_elim
      (λ l. absurd (clash_ℚ (of_int n) (of_int n +ℚ 1ℚ)
      (linear_lt 1 (λ n. n) (λ n. n ⊕ lit (pos 1)) (λ n. lit (pos 1)) (λ n. []) refl (of_int n) one-pos)
      (linear 4 (λ d q m e. m ⊕ lit (pos 1)) (λ d q m e. m) (λ d q m e. known (m ⊕ lit (pos 1)) ((q ⊕ lit (pos 1)) ⊗ d) ∷
      known (d ⊗ (q ⊕ lit (pos 1))) (d ⊗ e) ∷ equal (⊖ (lit (pos 1))) m (d ⊗ e) ∷ []) refl
      (of_int (pos d)) (of_int q) (of_int n) e
      (subst (λ (x : ℚ). x ≤ℚ (of_int q +ℚ 1ℚ) *ℚ of_int (pos d)) (of_int-+ℤ n (pos 1))
      (subst (λ (x : ℚ). of_int (n +ℤ pos 1) ≤ℚ x) (of_int-*ℤ (q +ℤ pos 1) (pos d) ∙ ap (λ (x : ℚ). x *ℚ of_int (pos d)) (of_int-+ℤ q (pos 1)))
      (of_int-le (n +ℤ pos 1) ((q +ℤ pos 1) *ℤ pos d) (floor-gt n d h))))
      (mul-le-mul_left_ℚ (of_int (pos d)) (of_int q +ℚ 1ℚ) e (≤ℚ_of_lt 0ℚ (of_int (pos d)) (of_nat-pos d h)) l) is)))
      (λ g. g) (≤ℚ_or_gt (of_int q +ℚ 1ℚ) e)

-- x is less than one beyond e, to the side
abbrev pub IsClose : Dir → ℚ → ℚ → Type 0
IsClose Max e x = x <ℚ e +ℚ 1ℚ
IsClose Min e x = e <ℚ x +ℚ 1ℚ

negated : (n : ℤ) (d : ℕ) (e : ℚ) → of_int n ≡ of_int (pos d) *ℚ e → of_int (neg_ℤ n) ≡ of_int (pos d) *ℚ neg_ℚ e
negated n d e is =
    of_int-neg n ∙ ap neg_ℚ is
    ∙ ring rat_ring 2 (λ d e. ⊖ (d ⊗ e)) (λ d e. d ⊗ (⊖ e)) refl (of_int (pos d)) e

pub rounded-beyond : (side : Dir) (n : ℤ) (d : ℕ) (e : ℚ) → 0 < d → of_int n ≡ of_int (pos d) *ℚ e → NoBetter side e (of_int (rounded side n (pos d)))
rounded-beyond Max n d e h is =
    let q : ℤ = int_div_euclid (neg_ℤ n) (pos d) in
    linear 3 (λ e q r. e) (λ e q r. r) (λ e q r. known q (⊖ e) ∷ equal (⊖ (lit (pos 1))) r (⊖ q) ∷ []) refl e (of_int q) (of_int (neg_ℤ q))
    (floor-below (neg_ℤ n) d (neg_ℚ e) h (negated n d e is)) (of_int-neg q)
rounded-beyond Min n d e h is = floor-below n d e h is

pub rounded-close : (side : Dir) (n : ℤ) (d : ℕ) (e : ℚ) → 0 < d → of_int n ≡ of_int (pos d) *ℚ e → IsClose side e (of_int (rounded side n (pos d)))
rounded-close Max n d e h is =
    let q : ℤ = int_div_euclid (neg_ℤ n) (pos d) in
    subst (λ (x : ℚ). x <ℚ e +ℚ 1ℚ) (sym (of_int-neg q))
    (turned (of_int q) e (floor-close (neg_ℤ n) d (neg_ℚ e) h (negated n d e is)))
  where
    turned : (q e : ℚ) → neg_ℚ e <ℚ q +ℚ 1ℚ → neg_ℚ q <ℚ e +ℚ 1ℚ
    turned q e l = linear_lt 2 (λ q e. ⊖ q) (λ q e. e ⊕ lit (pos 1)) (λ q e. (q ⊕ lit (pos 1)) ⊕ ⊖ (⊖ e)) (λ q e. []) refl q e (sub-pos (neg_ℚ e) (q +ℚ 1ℚ) l)
rounded-close Min n d e h is = floor-close n d e h is

-- A probability of a row is at most 1, so that its weight is at most the common denominator.
use Rattle.std.proofs.Common.{◌≡◌, ◌∙◌, ℕ, zero, suc, ◌*◌, ◌/◌, ◌<◌, ◌≤◌, ◌^◌, List, [], ℤ, pos, ◌*ℤ◌, int_div, unsigned_abs}
use Rattle.std.proofs.Common.{◌∷◌, length, get_or, refl, sym, ap, ap₂, subst, arith, div-le_self, div-mul-le_self, mul-le-mul_right}
use Rattle.std.proofs.lemmas.Int.{ints, unsigned_abs-mul, fits_signed_from_abs}
use Rattle.std.specs.{List.{All}, Prelude.{FitsSigned}}
use mir.Syntax.{w128}
use mir.Val.{to_z, of_z}
use Rattle.mdp_math.specs.{Integers.{abs_div}, Rational.{ℚ, ◌+ℚ◌, ◌≤ℚ◌, ◌<ℚ◌}, Sum.{sum_of}}
use Rattle.mdp_math.proofs.{Kernel.{All-head, All-tail}, Laws.{is_self, is_of_int}, Linear.{linear, known}, Order.{0ℚ, 1ℚ, ≤ℚ_trans, ≤ℚ_of_lt, is_le, positive}}
use Rattle.mdp_math.proofs.{Ring.{◌⊕◌, lit}, Sums.{sum_of-nonneg}}
use Rattle.mdp_spec.specs.{Mdp.{Entry}, Row.{entries, IsDistribution}}
use Rattle.mdp_horizon.specs.Probability.{IsProbability}
use Rattle.mdp_horizon.proofs.Loops.{back}

rest-nonneg : (row : List Entry) → All (λ x. 0ℚ <ℚ x.prob) row → 0ℚ ≤ℚ sum_of (λ x. x.prob) row
rest-nonneg row h = sum_of-nonneg (λ x. x.prob) row (λ k d l. ≤ℚ_of_lt 0ℚ (Entry.prob (get_or row k d)) (h k d l))

at_most_sum : (row : List Entry) (i : ℕ) (d : Entry) → All (λ x. 0ℚ <ℚ x.prob) row → i < length row → Entry.prob (get_or row i d) ≤ℚ sum_of (λ x. x.prob) row
at_most_sum [] i d h l = absurd (omega arith)
at_most_sum (x ∷ row) zero d h l =
    linear 2 (λ x r. x) (λ x r. x ⊕ r) (λ x r. known (lit (pos 0)) r ∷ []) refl x.prob (sum_of (λ x. x.prob) row) (rest-nonneg row (All-tail (λ x. 0ℚ <ℚ x.prob) x row h))
at_most_sum (x ∷ row) (suc i) d h l =
    ≤ℚ_trans (Entry.prob (get_or row i d)) (sum_of (λ x. x.prob) row) (x.prob +ℚ sum_of (λ x. x.prob) row) (at_most_sum row i d (All-tail (λ x. 0ℚ <ℚ x.prob) x row h) (omega arith))
    (linear 2 (λ x r. r) (λ x r. x ⊕ r) (λ x r. known (lit (pos 0)) x ∷ []) refl x.prob (sum_of (λ x. x.prob) row) (≤ℚ_of_lt 0ℚ x.prob (All-head (λ x. 0ℚ <ℚ x.prob) x row h)))

prob_is : (ts : List ℕ) (ps : List ℚ) (i : ℕ) (p : ℚ) → length ts ≡ length ps → i < length ps → p ≡ get_or ps i p
    → Entry.prob (get_or (entries ts ps) i (record { target = 0; prob = p })) ≡ p
prob_is [] ps i p e l q = absurd (omega arith)
prob_is (t ∷ ts) [] i p e l q = absurd (omega arith)
prob_is (t ∷ ts) (x ∷ ps) zero p e l q = sym q
prob_is (t ∷ ts) (x ∷ ps) (suc i) p e l q = prob_is ts ps i p (omega arith) (omega arith) q

entries_length : (ts : List ℕ) (ps : List ℚ) → length ts ≡ length ps → length (entries ts ps) ≡ length ps
entries_length [] [] e = refl
entries_length [] (x ∷ ps) e = absurd (omega arith)
entries_length (t ∷ ts) [] e = absurd (omega arith)
entries_length (t ∷ ts) (x ∷ ps) e = let r = entries_length ts ps (omega arith) in omega arith

pub probability_at : (ts : List ℕ) (ps : List ℚ) (i : ℕ) (p : ℚ) → IsDistribution (entries ts ps) → length ts ≡ length ps → i < length ps → p ≡ get_or ps i p → IsProbability p
probability_at ts ps i p known_ e l q =
    let none : Entry = record { target = 0; prob = p } in
    let long = entries_length ts ps e in
    record {
      above = subst (λ (x : ℚ). 0ℚ <ℚ x) (prob_is ts ps i p e l q) (known_.positive i none (omega arith));
      at_most = subst (λ (x : ℚ). x ≤ℚ 1ℚ) (prob_is ts ps i p e l q)
          (subst (λ (x : ℚ). Entry.prob (get_or (entries ts ps) i none) ≤ℚ x) known_.total (at_most_sum (entries ts ps) i none known_.positive (omega arith)));
    }

num-le : (p : ℚ) → IsProbability p → unsigned_abs p.num ≤ p.den
num-le p h =
    let a = is_le p 1ℚ p.num (pos 1) p.den 1 (is_self p) (is_of_int (pos 1)) h.at_most in
    let b = positive p h.above in
    omega (arith, ints, a, b)

pub part_is : (p : ℚ) (c C D : ℤ) → unsigned_abs c < 2 ^ 127 → C ≡ c → D ≡ pos p.den → to_z w128 (of_z w128 (int_div C D)) ≡ int_div c (pos p.den)
part_is p c C D l e q =
    let d : unsigned_abs c / p.den ≤ unsigned_abs c = div-le_self (unsigned_abs c) p.den in
    let a = abs_div c p.den in
    ap (λ (z : ℤ). to_z w128 (of_z w128 z)) (ap₂ int_div e q) ∙ back (int_div c (pos p.den)) (omega (arith, a, d))

pub weight_fits : (p : ℚ) (c n k : ℤ) → IsProbability p → unsigned_abs c < 2 ^ 127 → n ≡ p.num → k ≡ int_div c (pos p.den) → FitsSigned w128 (n *ℤ k)
weight_fits p c n k h l e q =
    let m : ℕ = unsigned_abs c / p.den in
    let a : unsigned_abs (n *ℤ k) ≡ unsigned_abs p.num * m = unsigned_abs-mul n k ∙ ap₂ ◌*◌ (ap unsigned_abs e) (ap unsigned_abs q ∙ abs_div c p.den) in
    let b : unsigned_abs p.num * m ≤ p.den * m = mul-le-mul_right m (num-le p h) in
    let d : m * p.den ≤ unsigned_abs c = div-mul-le_self (unsigned_abs c) p.den in
    fits_signed_from_abs w128 (n *ℤ k) (omega (arith, a, b, d))

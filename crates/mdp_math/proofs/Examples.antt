-- Computations and recipes, each checked.
use Rattle.std.proofs.Common.{◌≡◌, ℕ, zero, suc, ◌<◌, ◌⊎◌, inl, List, [], ◌∷◌, true, false, cond, eqb, refl, sym, ◌∙◌, subst, arith, pos, negsuc}
use Rattle.std.proofs.lemmas.List.Elements.{All-from_recursion}
use Rattle.std.specs.List.{All, Any}
use Rattle.mdp_math.specs.{Gcd.{gcd, gcd_with_fuel}, Rational.{ℚ, of_int, ratio, ◌+ℚ◌, ◌*ℚ◌, ◌-ℚ◌, neg_ℚ, inv_ℚ, le_ℚ, lt_ℚ, ◌≤ℚ◌, ◌<ℚ◌}, Sum.{sum_of, sum_at}}
use Rattle.mdp_math.specs.{Power.{pow_ℚ}, Extremes.{least, greatest}, Kernel.{weigh}, Pivot.{pivoted, pivoted_constant, active_below, entry_at, solution}}
use Rattle.mdp_math.proofs.{Ring.{◌⊕◌, ◌⊗◌, ⊖, lit, ring}, IntegerRing.{int_ring}, Laws.{rat_ring, is_self, is_add, is_mul, is_of_int, same_is}, Order.{0ℚ, 1ℚ}}
use Rattle.mdp_math.proofs.{Weight.{Shrinks, RanksFall, shrinks_by_ranks, weight_by_ranks, rate_by_ranks}, Solutions.{Solves, one_solution}}
use Rattle.mdp_math.proofs.{Elimination.{kernel_solution}, Linear.{linear, linear_lt, combine, equal, at_most, known}}

-- ---- computations

gcd-12_18 : gcd 12 18 ≡ 6
unfolding gcd gcd_with_fuel
gcd-12_18 = refl

thirds : ratio (pos 1) 3 +ℚ ratio (pos 2) 3 ≡ of_int (pos 1)
unfolding gcd gcd_with_fuel ratio ◌+ℚ◌ of_int
thirds = refl

two_quarters : ratio (pos 2) 4 ≡ ratio (pos 1) 2
unfolding gcd gcd_with_fuel ratio
two_quarters = refl

lowest_terms : (ℚ.num (ratio (negsuc 5) 4) ≡ negsuc 2) × (ℚ.den (ratio (negsuc 5) 4) ≡ 2)
unfolding gcd gcd_with_fuel ratio
lowest_terms = (refl, refl)

difference : ratio (pos 1) 2 -ℚ ratio (pos 2) 3 ≡ ratio (negsuc 0) 6
unfolding gcd gcd_with_fuel ratio ◌+ℚ◌ neg_ℚ
difference = refl

product : ratio (pos 2) 3 *ℚ ratio (pos 3) 4 ≡ ratio (pos 1) 2
unfolding gcd gcd_with_fuel ratio ◌*ℚ◌
product = refl

reciprocal : inv_ℚ (ratio (negsuc 1) 3) ≡ ratio (negsuc 2) 2
unfolding gcd gcd_with_fuel ratio inv_ℚ
reciprocal = refl

reciprocal_of_zero : inv_ℚ 0ℚ ≡ 0ℚ
unfolding gcd gcd_with_fuel ratio inv_ℚ of_int
reciprocal_of_zero = refl

order : le_ℚ (ratio (negsuc 0) 2) (ratio (pos 1) 3) ≡ true
unfolding gcd gcd_with_fuel le_ℚ ratio
order = refl

strict_order : lt_ℚ (ratio (pos 2) 6) (ratio (pos 1) 3) ≡ false
unfolding gcd gcd_with_fuel lt_ℚ ratio
strict_order = refl

power : pow_ℚ (ratio (pos 2) 3) 3 ≡ ratio (pos 8) 27
unfolding gcd gcd_with_fuel ratio ◌*ℚ◌ of_int
power = refl

-- 0 (1/2) + 1 (1/3) + 2 (1/6)
sum_with_places : sum_at (2 ∷ 3 ∷ 6 ∷ []) (λ k n. of_int (pos k) *ℚ ratio (pos 1) n) ≡ ratio (pos 2) 3
unfolding gcd gcd_with_fuel ratio ◌+ℚ◌ ◌*ℚ◌ of_int
sum_with_places = refl

extremes : (least (ratio (pos 1) 2 ∷ ratio (pos 1) 3 ∷ ratio (pos 3) 4 ∷ []) ≡ ratio (pos 1) 3) × (greatest (ratio (pos 1) 2 ∷ ratio (pos 1) 3 ∷ ratio (pos 3) 4 ∷ []) ≡ ratio (pos 3) 4)
unfolding gcd gcd_with_fuel ratio le_ℚ
extremes = (refl, refl)

-- a row with 1/4 at 0 and 3/4 at 2, and f = 4, 5, 8 weighs 1/4 * 4 + 3/4 * 8
row_weighed : weigh (λ (x : ℕ × ℚ). x.0) (λ x. x.1) (λ v. of_int (pos (cond (elim v [ zero ↦ true | suc n ↦ false ]) 4 8))) ((0, ratio (pos 1) 4) ∷ (2, ratio (pos 3) 4) ∷ []) ≡ of_int (pos 7)
unfolding gcd gcd_with_fuel ratio ◌+ℚ◌ ◌*ℚ◌ of_int
row_weighed = refl

active_numbers : active_below (λ v. elim v [ zero ↦ true | suc n ↦ elim n [ zero ↦ false | suc m ↦ true ] ]) 4 ≡ (3 ∷ 2 ∷ 0 ∷ [])
active_numbers = refl

-- x(0) = 1/2 x(1) and x(1) = 1/2 + 1/4 x(0) + 1/2 x(1): without 1 it is x(0) = 1/2 + 1/4 x(0)
two_rows : ℕ → ℕ → ℚ
two_rows zero zero = of_int (pos 0)
two_rows zero (suc v) = ratio (pos 1) 2
two_rows (suc t) zero = ratio (pos 1) 4
two_rows (suc t) (suc v) = ratio (pos 1) 2

one_step : (pivoted two_rows 1 0 0 ≡ ratio (pos 1) 4) × (pivoted_constant two_rows (λ t. elim t [ zero ↦ of_int (pos 0) | suc n ↦ ratio (pos 1) 2 ]) 1 0 ≡ ratio (pos 1) 2)
unfolding gcd gcd_with_fuel two_rows ratio ◌+ℚ◌ ◌*ℚ◌ neg_ℚ inv_ℚ of_int
one_step = (refl, refl)

-- ---- a kernel with a weight: from 0 one half leads back to 0, one half to 1, which is not active

half_row : List (ℕ × ℚ)
half_row = (0, ratio (pos 1) 2) ∷ (1, ratio (pos 1) 2) ∷ []

ranks : RanksFall {A = ℕ × ℚ} (λ x. x.0) (λ x. x.1) (λ v. eqb v 0) (λ s row. row ≡ half_row) (ratio (pos 1) 2) (λ s. 1) 1
unfolding gcd gcd_with_fuel half_row ratio of_int le_ℚ lt_ℚ ◌+ℚ◌
ranks = record {
  eps_positive = record { lt = tt };
  eps_at_most_one = record { le = tt };
  rank_positive = λ s a. omega arith;
  rank_at_most = λ s a. omega arith;
  entries = λ s row a e. subst (λ (r : List (ℕ × ℚ)). All (λ x. 0ℚ ≤ℚ x.1) r) (sym e) (All-from_recursion (λ x. 0ℚ ≤ℚ x.1) half_row (record { le = tt }, (record { le = tt }, tt)));
  mass = λ s row a e. subst (λ (r : List (ℕ × ℚ)). sum_of (λ x. x.1) r ≤ℚ 1ℚ) (sym e) (record { le = tt });
  falls = λ s row a e.
      subst (λ (r : List (ℕ × ℚ)). Any (λ x. (ratio (pos 1) 2 ≤ℚ x.1) × ((eqb x.0 0 ≡ false) ⊎ (1 < 1))) r) (sym e) (1, (1, ratio (pos 1) 2), omega arith, refl, (record { le = tt }, inl refl));
}

weight_and_rate : (Shrinks.weight (shrinks_by_ranks ranks) 0 ≡ ratio (pos 3) 4) × (Shrinks.weight (shrinks_by_ranks ranks) 1 ≡ 0ℚ) × (Shrinks.rate (shrinks_by_ranks ranks) ≡ ratio (pos 3) 4)
unfolding gcd gcd_with_fuel ratio of_int ◌+ℚ◌ ◌*ℚ◌ neg_ℚ
weight_and_rate = (weight_by_ranks ranks 0, weight_by_ranks ranks 1, rate_by_ranks ranks)

-- x(0) = 1/2 + 1/2 x(0) has the one solution 1
only_zero : (s : ℕ) → eqb s 0 ≡ true → s < 1
only_zero s a = grind arith

eliminated : solution (active_below (λ v. eqb v 0) 1) (λ s. entry_at (λ (x : ℕ × ℚ). x.0) (λ x. x.1) half_row) (λ s. ratio (pos 1) 2) 0 ≡ 1ℚ
unfolding gcd gcd_with_fuel half_row ratio of_int ◌+ℚ◌ ◌*ℚ◌ neg_ℚ inv_ℚ
eliminated = refl

only_solution : (x : ℕ → ℚ) → Solves {A = ℕ × ℚ} (λ x. x.0) (λ x. x.1) (λ v. eqb v 0) (λ s. half_row) (λ s. ratio (pos 1) 2) x → x 0 ≡ 1ℚ
only_solution x h =
    one_solution (shrinks_by_ranks ranks) 1 only_zero (λ s. half_row) (λ s a. refl) (λ s. ratio (pos 1) 2) x _ h
    (kernel_solution (shrinks_by_ranks ranks) 1 only_zero (λ s. half_row) (λ s a. refl) (λ s. ratio (pos 1) 2)) 0
    ∙ eliminated

-- ---- recipes

-- an identity of the ring: both sides as functions of the variables
square : (x y : ℚ) → (x +ℚ y) *ℚ (x +ℚ y) ≡ x *ℚ x +ℚ of_int (pos 2) *ℚ (x *ℚ y) +ℚ y *ℚ y
square = ring rat_ring 2 (λ x y. (x ⊕ y) ⊗ (x ⊕ y)) (λ x y. x ⊗ x ⊕ lit (pos 2) ⊗ (x ⊗ y) ⊕ y ⊗ y) refl

-- an equation from equations: the right side less the left side is the sum of k (r - l) over the hypotheses l = r
substituted : (x y z : ℚ) → x ≡ y +ℚ 1ℚ → y ≡ z *ℚ z → x ≡ z *ℚ z +ℚ 1ℚ
substituted = combine 3 (λ x y z. x) (λ x y z. z ⊗ z ⊕ lit (pos 1)) (λ x y z. equal (lit (pos 1)) x (y ⊕ lit (pos 1)) ∷ equal (lit (pos 1)) y (z ⊗ z) ∷ []) refl

-- an order from orders, with multipliers of at least 0: 'known' is once the hypothesis, 'at_most k' k times, and takes a proof of 0 ≤ k first
convex : (a x y c : ℚ) → 0ℚ ≤ℚ a → x ≤ℚ c → 0ℚ ≤ℚ 1ℚ -ℚ a → y ≤ℚ c → a *ℚ x +ℚ (1ℚ -ℚ a) *ℚ y ≤ℚ c
convex = linear 4 (λ a x y c. a ⊗ x ⊕ (lit (pos 1) ⊕ ⊖ a) ⊗ y) (λ a x y c. c) (λ a x y c. at_most a x c ∷ at_most (lit (pos 1) ⊕ ⊖ a) y c ∷ []) refl

-- a strict order: the difference is something above 0 and a sum as before
above : (x y : ℚ) → 0ℚ <ℚ y *ℚ y → 1ℚ ≤ℚ x → 1ℚ <ℚ x +ℚ y *ℚ y
above = linear_lt 2 (λ x y. lit (pos 1)) (λ x y. x ⊕ y ⊗ y) (λ x y. y ⊗ y) (λ x y. known (lit (pos 1)) x ∷ []) refl

-- a new law of ℚ from one identity of ℤ: what each side is, by terms, and the products across
double : (x : ℚ) → x +ℚ x ≡ of_int (pos 2) *ℚ x
double x =
    same_is (x +ℚ x) (of_int (pos 2) *ℚ x) _ _ _ _ (is_add _ _ _ _ _ _ (is_self x) (is_self x)) (is_mul _ _ _ _ _ _ (is_of_int (pos 2)) (is_self x))
    (ring int_ring 2 (λ a b. (a ⊗ b ⊕ a ⊗ b) ⊗ (lit (pos 1) ⊗ b)) (λ a b. (lit (pos 2) ⊗ a) ⊗ (b ⊗ b)) refl x.num (pos x.den))

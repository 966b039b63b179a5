-- Both directions at once: for the least values all numbers are negated, and then greater is better.
use Rattle.std.proofs.Common.{◌≡◌, true, false, List, [], ◌∷◌, refl, sym, pos, Ordering}
use Rattle.std.specs.declared.cmp.Ordering.TheVariants.{Less, Equal, Greater}
use Rattle.mdp_math.specs.{Rational.{ℚ, ◌+ℚ◌, neg_ℚ, ◌≤ℚ◌, ◌<ℚ◌}, Written.{cmp_ℚ}, Kernel.{weigh}}
use Rattle.mdp_math.proofs.{Ring.{◌⊕◌, ⊖, lit, ring}, Laws.{rat_ring}, Linear.{linear, linear_lt, known}}
use Rattle.mdp_math.proofs.{Order.{0ℚ, ≤ℚ_of_lt, ≤ℚ_of_eq, lt_of_cmp, eq_of_cmp, gt_of_cmp, sub-pos}, Kernel.{weigh-neg}}
use Rattle.mdp_spec.specs.{Mdp.{Entry, value_at}, Row.{row_sum}}
use Rattle.mdp_rows.specs.{declared.dir.Dir.{Dir}, declared.dir.Dir.TheVariants.{Max, Min}, Better.{IsBetter, IsAsGood, is_better}}

abbrev pub turn : Dir → ℚ → ℚ
turn Max x = x
turn Min x = neg_ℚ x

pub turn-zero : (d : Dir) → turn d 0ℚ ≡ 0ℚ
turn-zero Max = refl
turn-zero Min = ring rat_ring 0 (⊖ (lit (pos 0))) (lit (pos 0)) refl

pub turn-add : (d : Dir) (x y : ℚ) → turn d (x +ℚ y) ≡ turn d x +ℚ turn d y
turn-add Max x y = refl
turn-add Min x y = ring rat_ring 2 (λ x y. ⊖ (x ⊕ y)) (λ x y. ⊖ x ⊕ ⊖ y) refl x y

pub turn-row : (d : Dir) (row : List Entry) (x : List ℚ) → turn d (row_sum row x) ≡ weigh (λ y. y.target) (λ y. y.prob) (λ s. turn d (value_at x s)) row
turn-row Max row x = refl
turn-row Min row x = sym (weigh-neg (λ y. y.target) (λ y. y.prob) (value_at x) row)

neg-lt : (x y : ℚ) → x <ℚ y → neg_ℚ y <ℚ neg_ℚ x
neg-lt x y h = linear_lt 2 (λ x y. ⊖ y) (λ x y. ⊖ x) (λ x y. y ⊕ ⊖ x) (λ x y. []) refl x y (sub-pos x y h)

neg-le : (x y : ℚ) → x ≤ℚ y → neg_ℚ y ≤ℚ neg_ℚ x
neg-le x y h = linear 2 (λ x y. ⊖ y) (λ x y. ⊖ x) (λ x y. known x y ∷ []) refl x y h

-- ---- to and fro

pub turn_better : (d : Dir) (x y : ℚ) → IsBetter d x y → turn d y <ℚ turn d x
turn_better Max x y h = h
turn_better Min x y h = neg-lt x y h

pub turn_as_good : (d : Dir) (x y : ℚ) → IsAsGood d x y → turn d y ≤ℚ turn d x
turn_as_good Max x y h = h
turn_as_good Min x y h = neg-le x y h

pub better_turned : (d : Dir) (x y : ℚ) → turn d y <ℚ turn d x → IsBetter d x y
better_turned Max x y h = h
better_turned Min x y h = linear_lt 2 (λ x y. x) (λ x y. y) (λ x y. ⊖ x ⊕ ⊖ (⊖ y)) (λ x y. []) refl x y (sub-pos (neg_ℚ y) (neg_ℚ x) h)

pub as_good_turned : (d : Dir) (x y : ℚ) → turn d y ≤ℚ turn d x → IsAsGood d x y
as_good_turned Max x y h = h
as_good_turned Min x y h = linear 2 (λ x y. x) (λ x y. y) (λ x y. known (⊖ y) (⊖ x) ∷ []) refl x y h

-- ---- the test of the comparison

pub better_by : (d : Dir) (x y : ℚ) (o : Ordering) → cmp_ℚ x y ≡ o → is_better d o ≡ true → IsBetter d x y
better_by Max x y Less e h = cc
better_by Max x y Equal e h = cc
better_by Max x y Greater e h = gt_of_cmp x y e
better_by Min x y Less e h = lt_of_cmp x y e
better_by Min x y Equal e h = cc
better_by Min x y Greater e h = cc

pub worse_by : (d : Dir) (x y : ℚ) (o : Ordering) → cmp_ℚ x y ≡ o → is_better d o ≡ false → IsAsGood d y x
worse_by Max x y Less e h = ≤ℚ_of_lt x y (lt_of_cmp x y e)
worse_by Max x y Equal e h = ≤ℚ_of_eq x y (eq_of_cmp x y e)
worse_by Max x y Greater e h = cc
worse_by Min x y Less e h = cc
worse_by Min x y Equal e h = ≤ℚ_of_eq y x (sym (eq_of_cmp x y e))
worse_by Min x y Greater e h = ≤ℚ_of_lt y x (gt_of_cmp x y e)

pub better_of_test : (d : Dir) (x y : ℚ) → is_better d (cmp_ℚ x y) ≡ true → turn d y <ℚ turn d x
better_of_test d x y h = turn_better d x y (better_by d x y (cmp_ℚ x y) refl h)

pub worse_of_test : (d : Dir) (x y : ℚ) → is_better d (cmp_ℚ x y) ≡ false → turn d x ≤ℚ turn d y
worse_of_test d x y h = turn_as_good d y x (worse_by d x y (cmp_ℚ x y) refl h)

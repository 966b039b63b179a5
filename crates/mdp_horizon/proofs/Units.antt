-- Numbers in units as fractions, and the sum of a choice by these.
use Rattle.std.proofs.Common.{◌≡◌, ◌∙◌, ℕ, ◌<◌, false, List, [], ◌∷◌, length, Option, Some, None, unwrap_or, refl, sym, ap, subst, ℤ, pos}
use Rattle.std.proofs.{lemmas.List.{get_or-map}, lemmas.List.Elements.{All-nil, All-cons}}
use Rattle.std.specs.{List.{All}, Option.{option_map}}
use Rattle.mdp_math.specs.{Rational.{ℚ, of_int, ratio, ◌+ℚ◌, ◌*ℚ◌}, Written.{narrow_ℚ}}
use Rattle.mdp_math.proofs.{IntegerRing.{int_ring}, Kernel.{All-head, All-tail}, Laws.{same_is, is_of_int, is_mul, is_ratio, rat_ring}}
use Rattle.mdp_math.proofs.{Order.{0ℚ, 1ℚ, ratio-nonneg, mul-le-mul_left_ℚ}, Ring.{◌⊕◌, ◌⊗◌, lit, ring}, Sums.{sum_of-same_all, sum_of-scale_right}}
use Rattle.mdp_math.proofs.Written.{narrow_ℚ-some}
use Rattle.mdp_spec.specs.{Mdp.{Entry, value_at}, Row.{row_sum}, Tree.{is_marked}, Bounds.{reward_at, finite_part, infinite}}
use Rattle.mdp_spec.proofs.Values.{part_of_some, finite_of_some}
use Rattle.mdp_rows.specs.{declared.dir.Dir.{Dir}, declared.dir.Dir.TheVariants.{Max, Min}}
use Rattle.mdp_horizon.specs.{Between.{Claimed}, Whole.{in_units, fractions, whole_at}, Columns.{shown}}
use Rattle.mdp_horizon.proofs.{Directions.{NoBetter}, Totals.{number_at, weighed, AreThere, exact}}

-- ---- one unit

abbrev pub unit : ℕ → ℚ
unit one = ratio (pos 1) one

pub in_units-is : (one : ℕ) (k : ℤ) → 0 < one → in_units (pos one) k ≡ of_int k *ℚ unit one
in_units-is one k h =
    same_is (ratio k one) (of_int k *ℚ unit one) _ _ _ _ (is_ratio k one h) (is_mul _ _ _ _ _ _ (is_of_int k) (is_ratio (pos 1) one h))
    (ring int_ring 2 (λ k o. k ⊗ (lit (pos 1) ⊗ o)) (λ k o. (k ⊗ lit (pos 1)) ⊗ o) refl k (pos one))

pub units-one : (one : ℕ) → 0 < one → in_units (pos one) (pos one) ≡ 1ℚ
units-one one h =
    same_is (ratio (pos one) one) 1ℚ _ _ _ _ (is_ratio (pos one) one h) (is_of_int (pos 1)) (ring int_ring 1 (λ o. o ⊗ lit (pos 1)) (λ o. lit (pos 1) ⊗ o) refl (pos one))

pub units-zero : (one : ℕ) → 0 < one → in_units (pos one) (pos 0) ≡ 0ℚ
units-zero one h =
    same_is (ratio (pos 0) one) 0ℚ _ _ _ _ (is_ratio (pos 0) one h) (is_of_int (pos 0)) (ring int_ring 1 (λ o. lit (pos 0) ⊗ lit (pos 1)) (λ o. lit (pos 0) ⊗ o) refl (pos one))

pub unit_all : (one : ℕ) → 0 < one → of_int (pos one) *ℚ unit one ≡ 1ℚ
unit_all one h = sym (in_units-is one (pos one) h) ∙ units-one one h

no_better_units : (dir : Dir) (one : ℕ) (x : ℚ) (k : ℤ) → 0 < one → NoBetter dir x (of_int k) → NoBetter dir (unit one *ℚ x) (unit one *ℚ of_int k)
no_better_units Max one x k h p = mul-le-mul_left_ℚ (unit one) x (of_int k) (ratio-nonneg 1 one h) p
no_better_units Min one x k h p = mul-le-mul_left_ℚ (unit one) (of_int k) x (ratio-nonneg 1 one h) p

-- in units, and as fractions
pub no_better_in_units : (dir : Dir) (one : ℕ) (x : ℚ) (k : ℤ) → 0 < one → NoBetter dir x (of_int k) → NoBetter dir (x *ℚ unit one) (in_units (pos one) k)
no_better_in_units dir one x k h p =
    subst (λ (y : ℚ). NoBetter dir (x *ℚ unit one) y) (sym (in_units-is one k h))
    (subst (λ (y : ℚ). NoBetter dir y (of_int k *ℚ unit one)) (ring rat_ring 2 (λ u x. u ⊗ x) (λ u x. x ⊗ u) refl (unit one) x)
    (subst (λ (y : ℚ). NoBetter dir (unit one *ℚ x) y) (ring rat_ring 2 (λ u x. u ⊗ x) (λ u x. x ⊗ u) refl (unit one) (of_int k)) (no_better_units dir one x k h p)))

-- ---- a column as fractions

pub fraction_at : (one : ℕ) (column : List (Option ℤ)) (s : ℕ) → s < length column → reward_at (fractions (pos one) column) s ≡ option_map (in_units (pos one)) (whole_at column s)
fraction_at one column s h = get_or-map (option_map (in_units (pos one))) column s (Some (pos 0)) (Some 0ℚ) h

-- the values of the targets are there as fractions
pub stays : (one n : ℕ) (column : List (Option ℤ)) (row : List Entry) → n ≡ length column → All (λ x. x.target < n) row → AreThere column row
    → All (λ y. is_marked (infinite (fractions (pos one) column)) y.target ≡ false) row
stays one n column [] e inside there = All-nil (λ y. is_marked (infinite (fractions (pos one) column)) (Entry.target y) ≡ false)
stays one n column (x ∷ row) e inside there =
    All-cons (λ y. is_marked (infinite (fractions (pos one) column)) y.target ≡ false) x row
    (finite_of_some (fractions (pos one) column) x.target (in_units (pos one) there.0.0)
    (fraction_at one column x.target (subst (λ (k : ℕ). x.target < k) e (All-head (λ x. x.target < n) x row inside)) ∙ ap (option_map (in_units (pos one))) there.0.1))
    (stays one n column row e (All-tail (λ x. x.target < n) x row inside) there.1)

values_are : (one n : ℕ) (column : List (Option ℤ)) (row : List Entry) → 0 < one → n ≡ length column → All (λ x. x.target < n) row → AreThere column row
    → All (λ x. x.prob *ℚ value_at (finite_part (fractions (pos one) column)) x.target ≡ (x.prob *ℚ number_at column x.target) *ℚ unit one) row
values_are one n column [] h e inside there = All-nil (λ x. Entry.prob x *ℚ value_at (finite_part (fractions (pos one) column)) (Entry.target x)
    ≡ (Entry.prob x *ℚ number_at column (Entry.target x)) *ℚ unit one)
values_are one n column (x ∷ row) h e inside there =
    All-cons (λ x. x.prob *ℚ value_at (finite_part (fractions (pos one) column)) x.target ≡ (x.prob *ℚ number_at column x.target) *ℚ unit one) x row
    (ap (λ (v : ℚ). x.prob *ℚ v)
    (part_of_some (fractions (pos one) column) x.target (in_units (pos one) there.0.0)
    (fraction_at one column x.target (subst (λ (k : ℕ). x.target < k) e (All-head (λ x. x.target < n) x row inside)) ∙ ap (option_map (in_units (pos one))) there.0.1)
    ∙ in_units-is one there.0.0 h
    ∙ ap (λ (o : Option ℤ). of_int (unwrap_or o (pos 0)) *ℚ unit one) (sym there.0.1))
    ∙ ring rat_ring 3 (λ p v u. p ⊗ (v ⊗ u)) (λ p v u. (p ⊗ v) ⊗ u) refl x.prob (number_at column x.target) (unit one))
    (values_are one n column row h e (All-tail (λ x. x.target < n) x row inside) there.1)

-- what is earned and then comes by the fractions
pub backed_up-is : (one n : ℕ) (start : ℚ) (column : List (Option ℤ)) (row : List Entry) → 0 < one → n ≡ length column → All (λ x. x.target < n) row → AreThere column row
    → exact one start row column *ℚ unit one ≡ start +ℚ row_sum row (finite_part (fractions (pos one) column))
backed_up-is one n start column row h e inside there =
    ring rat_ring 4 (λ o s w u. (o ⊗ s ⊕ w) ⊗ u) (λ o s w u. (o ⊗ u) ⊗ s ⊕ w ⊗ u) refl (of_int (pos one)) start (weighed column row) (unit one)
    ∙ ap (λ (x : ℚ). x *ℚ start +ℚ weighed column row *ℚ unit one) (unit_all one h)
    ∙ ap (λ (x : ℚ). 1ℚ *ℚ start +ℚ x)
    (sym (sum_of-scale_right (unit one) (λ x. x.prob *ℚ number_at column x.target) row)
    ∙ sym (sum_of-same_all (λ x. x.prob *ℚ value_at (finite_part (fractions (pos one) column)) x.target) (λ x. (x.prob *ℚ number_at column x.target) *ℚ unit one) row
    (values_are one n column row h e inside there)))
    ∙ ring rat_ring 2 (λ s r. lit (pos 1) ⊗ s ⊕ r) (λ s r. s ⊕ r) refl start (row_sum row (finite_part (fractions (pos one) column)))

-- ---- values that are shown

claimed_narrow : (x : ℚ) (o : Option ℚ) (f : ℚ → Type 0) → narrow_ℚ x ≡ o → f x → Claimed o f
claimed_narrow x None f e h = tt
claimed_narrow x (Some y) f e h = subst f (sym (narrow_ℚ-some x y (sym e))) h

-- what is claimed of a value is claimed of it as it is shown
pub claimed_shown : (one : ℕ) (o : Option ℤ) (f : ℚ → Type 0) → Claimed (option_map (in_units (pos one)) o) f → Claimed (shown (pos one) o) f
claimed_shown one None f h = tt
claimed_shown one (Some k) f h = claimed_narrow (in_units (pos one) k) (narrow_ℚ (in_units (pos one) k)) f refl h

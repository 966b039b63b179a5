-- What a comparison by written terms says of the numbers.
use Rattle.std.proofs.Common.{◌≡◌, Bool, true, true≢false, Option, Some, None, refl, sym, ap}
use Rattle.std.specs.{Option.{IsSome, option_map}, declared.cmp.Ordering.{Ordering}, declared.cmp.Ordering.TheVariants.{Less, Equal, Greater}}
use Rattle.mdp_math.specs.{Rational.{ℚ, ◌≤ℚ◌}, Written.{written_compare, cmp_ℚ}}
use Rattle.mdp_math.proofs.{Written.{written_compare-some}, Order.{≤ℚ_of_eq, ≤ℚ_of_lt, clash_ℚ, lt_of_cmp, eq_of_cmp, gt_of_cmp}}
use Rattle.mdp_farkas.specs.Compare.{not_less, not_greater, no_order, is_at_least, is_at_most, is_equal}

-- a test of the order, and what it means
decided_by : (test : Ordering → Bool) (P : Type 0) (x y : ℚ) (o : Option Ordering) → o ≡ written_compare x y → ((r : Ordering) → r ≡ cmp_ℚ x y → test r ≡ true → P)
    → option_map test o ≡ Some true → P
decided_by test P x y None e means h = cc
decided_by test P x y (Some r) e means h = means r (written_compare-some x y r e) cc

holds_by : (test : Ordering → Bool) (x y : ℚ) (o : Option Ordering) → o ≡ written_compare x y → ((r : Ordering) → r ≡ cmp_ℚ x y → test r ≡ true) → IsSome (option_map test o)
    → option_map test o ≡ Some true
holds_by test x y None e means h = absurd (true≢false (sym h))
holds_by test x y (Some r) e means h = ap Some (means r (written_compare-some x y r e))

at_least_by : (x y : ℚ) (r : Ordering) → r ≡ cmp_ℚ x y → not_less r ≡ true → y ≤ℚ x
at_least_by x y Less e h = absurd (true≢false (sym h))
at_least_by x y Equal e h = ≤ℚ_of_eq y x (sym (eq_of_cmp x y (sym e)))
at_least_by x y Greater e h = ≤ℚ_of_lt y x (gt_of_cmp x y (sym e))

by_at_least : (x y : ℚ) → y ≤ℚ x → (r : Ordering) → r ≡ cmp_ℚ x y → not_less r ≡ true
by_at_least x y h Less e = absurd (clash_ℚ x y (lt_of_cmp x y (sym e)) h)
by_at_least x y h Equal e = refl
by_at_least x y h Greater e = refl

at_most_by : (x y : ℚ) (r : Ordering) → r ≡ cmp_ℚ x y → not_greater r ≡ true → x ≤ℚ y
at_most_by x y Less e h = ≤ℚ_of_lt x y (lt_of_cmp x y (sym e))
at_most_by x y Equal e h = ≤ℚ_of_eq x y (eq_of_cmp x y (sym e))
at_most_by x y Greater e h = absurd (true≢false (sym h))

by_at_most : (x y : ℚ) → x ≤ℚ y → (r : Ordering) → r ≡ cmp_ℚ x y → not_greater r ≡ true
by_at_most x y h Less e = refl
by_at_most x y h Equal e = refl
by_at_most x y h Greater e = absurd (clash_ℚ y x (gt_of_cmp x y (sym e)) h)

equal_by : (x y : ℚ) (r : Ordering) → r ≡ cmp_ℚ x y → no_order r ≡ true → x ≡ y
equal_by x y Less e h = absurd (true≢false (sym h))
equal_by x y Equal e h = eq_of_cmp x y (sym e)
equal_by x y Greater e h = absurd (true≢false (sym h))

by_equal : (x y : ℚ) → x ≡ y → (r : Ordering) → r ≡ cmp_ℚ x y → no_order r ≡ true
by_equal x y h Less e = absurd (clash_ℚ x y (lt_of_cmp x y (sym e)) (≤ℚ_of_eq y x (sym h)))
by_equal x y h Equal e = refl
by_equal x y h Greater e = absurd (clash_ℚ y x (gt_of_cmp x y (sym e)) (≤ℚ_of_eq x y h))

pub le_of_at_least : (x y : ℚ) → is_at_least x y ≡ Some true → y ≤ℚ x
le_of_at_least x y h = decided_by not_less (y ≤ℚ x) x y (written_compare x y) refl (at_least_by x y) h

pub at_least_of_le : (x y : ℚ) → y ≤ℚ x → IsSome (is_at_least x y) → is_at_least x y ≡ Some true
at_least_of_le x y h w = holds_by not_less x y (written_compare x y) refl (by_at_least x y h) w

pub le_of_at_most : (x y : ℚ) → is_at_most x y ≡ Some true → x ≤ℚ y
le_of_at_most x y h = decided_by not_greater (x ≤ℚ y) x y (written_compare x y) refl (at_most_by x y) h

pub at_most_of_le : (x y : ℚ) → x ≤ℚ y → IsSome (is_at_most x y) → is_at_most x y ≡ Some true
at_most_of_le x y h w = holds_by not_greater x y (written_compare x y) refl (by_at_most x y h) w

pub same_of_equal : (x y : ℚ) → is_equal x y ≡ Some true → x ≡ y
same_of_equal x y h = decided_by no_order (x ≡ y) x y (written_compare x y) refl (equal_by x y) h

pub equal_of_same : (x y : ℚ) → x ≡ y → IsSome (is_equal x y) → is_equal x y ≡ Some true
equal_of_same x y h w = holds_by no_order x y (written_compare x y) refl (by_equal x y h) w

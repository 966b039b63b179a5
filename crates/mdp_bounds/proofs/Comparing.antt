-- What an exact order says of the numbers.
use Rattle.std.proofs.Common.{◌≡◌, true, not, sym}
use Rattle.std.specs.{Bool.{◌==◌}, Ordering.{ordering_index}, declared.cmp.Ordering.{Ordering}, declared.cmp.Ordering.TheVariants.{Less, Equal, Greater}}
use Rattle.mdp_math.specs.{Rational.{ℚ, le_ℚ}, Written.{cmp_ℚ}}
use Rattle.mdp_math.proofs.{Extremes.{le_of_test, test_of_le}, Booleans.{false_of_not}, Order.{≤ℚ_of_eq, ≤ℚ_of_lt, clash_ℚ, lt_of_cmp, eq_of_cmp, gt_of_cmp}}
use Rattle.mdp_farkas.proofs.Inequalities.{Stands}
use Rattle.mdp_rows.specs.{declared.dir.Dir.{Dir}, declared.dir.Dir.TheVariants.{Max, Min}}
use Rattle.mdp_bounds.specs.Sum.{stands}

pub le_test : (x y : ℚ) (o : Ordering) → o ≡ cmp_ℚ x y → not (ordering_index o == 2) ≡ le_ℚ x y
le_test x y Less e = sym (test_of_le x y (≤ℚ_of_lt x y (lt_of_cmp x y (sym e))))
le_test x y Equal e = sym (test_of_le x y (≤ℚ_of_eq x y (eq_of_cmp x y (sym e))))
le_test x y Greater e = sym (false_of_not (le_ℚ x y) (λ t. clash_ℚ y x (gt_of_cmp x y (sym e)) (le_of_test x y t)))

pub stands_of : (dir : Dir) (x y : ℚ) → stands dir x y ≡ true → Stands dir x y
stands_of Max x y h = le_of_test y x h
stands_of Min x y h = le_of_test x y h

pub of_stands : (dir : Dir) (x y : ℚ) → Stands dir x y → stands dir x y ≡ true
of_stands Max x y h = test_of_le y x h
of_stands Min x y h = test_of_le x y h

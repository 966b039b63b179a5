-- Discounted rows, computed.
use Rattle.std.proofs.Common.{◌≡◌, [], ◌∷◌, refl}
use Rattle.mdp_math.specs.{Gcd.{gcd, gcd_with_fuel}, Rational.{of_int, ratio, neg_ℚ, ◌+ℚ◌, ◌*ℚ◌, le_ℚ}}
use Rattle.mdp_math.specs.Written.{narrow, narrow_ℚ, written_add, written_mul, written_compare}
use Rattle.mdp_spec.proofs.Small.{entry, number, over}
use Rattle.mdp_discount.specs.Problem.{discounted_row}

halved : discounted_row 2 (over 1 2) (entry 0 (over 1 2) ∷ entry 1 (over 1 2) ∷ []) ≡ entry 0 (over 1 4) ∷ entry 1 (over 1 4) ∷ entry 2 (over 1 2) ∷ []
unfolding gcd gcd_with_fuel of_int ratio neg_ℚ le_ℚ ◌+ℚ◌ ◌*ℚ◌ narrow narrow_ℚ written_add written_mul written_compare
halved = refl

-- under factor 0 a row leads to the node behind the states alone
ended : discounted_row 2 (number 0) (entry 0 (over 1 2) ∷ entry 1 (over 1 2) ∷ []) ≡ entry 2 (number 1) ∷ []
unfolding gcd gcd_with_fuel of_int ratio neg_ℚ le_ℚ ◌+ℚ◌ ◌*ℚ◌ narrow narrow_ℚ written_add written_mul written_compare
ended = refl

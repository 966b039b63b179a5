-- A threshold that is at least 0 stands in a claim.
use Rattle.std.proofs.Common.{◌≡◌, true, refl, sym, ap₂, pos, ℤ, ◌*ℤ◌, int_le, ◌∙◌}
use Rattle.mdp_math.specs.Rational.{ℚ, of_int, le_ℚ, ◌≤ℚ◌}
use Rattle.mdp_math.proofs.{Ring.{◌⊗◌, lit, ring}, IntegerRing.{int_ring}, Extremes.{test_of_le}, Order.{0ℚ}}
use Rattle.mdp_cert.specs.Cert.{is_at_least_zero}

zero-times : (x : ℤ) → pos 0 *ℤ x ≡ pos 0
zero-times x = ring int_ring 1 (λ x. lit (pos 0) ⊗ x) (λ x. lit (pos 0)) refl x

times-one : (x : ℤ) → x *ℤ pos 1 ≡ x
times-one x = ring int_ring 1 (λ x. x ⊗ lit (pos 1)) (λ x. x) refl x

pub threshold_fits : (t : ℚ) → of_int (pos 0) ≤ℚ t → is_at_least_zero t ≡ true
unfolding of_int le_ℚ
threshold_fits t h = ap₂ (λ (x y : ℤ). int_le x y) (sym (zero-times (pos t.den))) (sym (times-one t.num)) ∙ test_of_le 0ℚ t h

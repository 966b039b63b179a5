-- The spellings of the numbers in a layered model.
use Rattle.std.proofs.{Common.{◌≡◌, codes, lit<, pos, refl}, lemmas.Fmt.{decimal_digit}}
use Rattle.mdp_math.specs.{Gcd.{gcd, gcd_with_fuel}, Rational.{of_int, ratio}}
use Rattle.mdp_num.specs.Value.{spelling}
use Rattle.mdp_gen.specs.Layered.{one, half}

pub one-spelled : spelling one ≡ codes "1"
unfolding spelling of_int
one-spelled = simp (decimal_digit 1 (lit< tt)) refl

pub half-spelled : spelling half ≡ codes "1/2"
unfolding spelling ratio of_int gcd gcd_with_fuel
half-spelled = simp (decimal_digit 1 (lit< tt), decimal_digit 2 (lit< tt))

pub zero-spelled : spelling (of_int (pos 0)) ≡ codes "0"
unfolding spelling of_int
zero-spelled = simp (decimal_digit 0 (lit< tt)) refl

-- The fields of a fraction, and what it is.
use Rattle.std.proofs.{Common.{◌≡◌, ◌<◌, ◌^◌, ℤ, pos, ◌<ℤ◌, unsigned_abs, ◌∙◌, ap, ap₂, arith}, lemmas.Int.{ints}}
use Rattle.mdp_math.specs.{Gcd.{gcd}, Rational.{ℚ, ratio}}
use Rattle.mdp_math.proofs.Laws.{num-ratio, den-ratio}
use Rattle.mdp_num.specs.declared.frac.Frac.TheInside.{Inside}

unfoldable pub value_of : Inside → ℚ
value_of a = ratio a.num (unsigned_abs a.den)

pub record IsFrac (a : Inside) : Type 0 where
  pub positive : pos 0 <ℤ a.den
  pub lowest : gcd (unsigned_abs a.num) (unsigned_abs a.den) ≡ 1
  pub narrow_num : unsigned_abs a.num < 2 ^ 127
  pub narrow_den : unsigned_abs a.den < 2 ^ 127

pub abs-pos : (z : ℤ) → pos 0 <ℤ z → 0 < unsigned_abs z
abs-pos z h = omega (arith, ints)

pub pos-abs : (z : ℤ) → pos 0 <ℤ z → pos (unsigned_abs z) ≡ z
pos-abs z h = omega (arith, ints)

same_fields : (a : Inside) (n d : ℤ) → n ≡ a.num → d ≡ a.den → (let x : Inside = record { num = n; den = d } in x) ≡ a
same_fields a n d p q = ap₂ (λ (u v : ℤ). let x : Inside = record { num = u; den = v } in x) p q

pub terms_back : (a : Inside) → IsFrac a → (let x : Inside = record { num = ℚ.num (value_of a); den = pos (ℚ.den (value_of a)) } in x) ≡ a
unfolding value_of
terms_back a h = same_fields a _ _ (num-ratio a.num (unsigned_abs a.den) (abs-pos a.den h.positive) h.lowest)
    (ap pos (den-ratio a.num (unsigned_abs a.den) (abs-pos a.den h.positive) h.lowest) ∙ pos-abs a.den h.positive)

use Rattle.std.proofs.Common.{◌≡◌, ℤ, ◌*ℤ◌, ◌*◌, ◌<◌, ◌≤◌, ◌^◌, unsigned_abs, to_z, of_z, to_z-of_z, Some, arith, sym, ap, ap₂, subst, ◌∙◌}
use Rattle.std.proofs.{lemmas.Int.{ints, unsigned_abs-mul, fits_signed_from_abs}, Math.Nat.{mul-le-mul}}
use Rattle.std.specs.Prelude.{FitsSigned}
use mir.Syntax.{w64, w128}
use Rattle.mdp_math.specs.Written.{narrow}
use Rattle.mdp_math.proofs.Written.{narrow-kept, narrow-past}
use Rattle.mdp_num.proofs.Values.{result-bits}
use lib.Signed.{mag}
use Rattle.mdp_num.proofs.frac.times.Goals as goal

pub returns-in-Some : goal.returns-in-Some
returns-in-Some c = grind (arith, ints, narrow-kept, narrow-past)

pub returns-in_default-checked_mul : goal.returns-in_default-checked_mul
returns-in_default-checked_mul c = grind (arith, ints, narrow-kept, narrow-past)

pub returns-in_default-checked_mul-2 : goal.returns-in_default-checked_mul-2
returns-in_default-checked_mul-2 c = grind (arith, ints, narrow-kept, narrow-past)

-- the product of numbers of 64 bits is in width
short-product : (a b x y : ℤ) → FitsSigned w64 a → FitsSigned w64 b → x ≡ a → y ≡ b → Some (to_z w128 (of_z w128 (x *ℤ y))) ≡ narrow (a *ℤ b)
short-product a b x y p q e f =
    let u : unsigned_abs a ≤ 2 ^ 63 = omega (arith, ints, p) in
    let v : unsigned_abs b ≤ 2 ^ 63 = omega (arith, ints, q) in
    let l : unsigned_abs a * unsigned_abs b ≤ 2 ^ 63 * 2 ^ 63 = mul-le-mul u v in
    let h : unsigned_abs (a *ℤ b) < 2 ^ 127 = omega (arith, unsigned_abs-mul a b, l) in
    ap (λ (z : ℤ). Some (to_z w128 (of_z w128 z))) (ap₂ ◌*ℤ◌ e f) ∙ ap Some (to_z-of_z (fits_signed_from_abs w128 (a *ℤ b) h)) ∙ sym (narrow-kept (a *ℤ b) h)

-- a number that was read in 64 bits, at 128
widened : (a b s r : ℤ) → b ≡ a → FitsSigned w64 b → s ≡ b → mag r < 2 ^ 127 → r ≡ to_z w64 (of_z w64 s) → to_z w128 (of_z w128 r) ≡ a
widened a b s r e p f h g = result-bits r h ∙ g ∙ ap (λ (z : ℤ). to_z w64 (of_z w64 z)) f ∙ to_z-of_z p ∙ e

pub returns-in-Ok-Ok : goal.returns-in-Ok-Ok
returns-in-Ok-Ok c =
    let first = c.in-Ok-Ok.ensures in
    let second = c.in-Ok-Ok.ensures' in
    let a = to_z-of_z c.ranges.a in
    let b = to_z-of_z c.ranges.b in
    short-product c.args.a c.args.b _ _ (subst (FitsSigned w64) a first.0) (subst (FitsSigned w64) b second.0)
    (widened _ _ _ _ a first.0 first.1 c.from.type_inv c.from.ensures) (widened _ _ _ _ b second.0 second.1 c.from-in-Ok-Ok.type_inv c.from-in-Ok-Ok.ensures)

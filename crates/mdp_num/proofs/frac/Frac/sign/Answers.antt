use Rattle.std.proofs.{Common.{◌≡◌, ◌≤ℤ◌, ℤ, pos, neg_ℤ, ap, ◌∙◌, sym, subst, ◌↔◌, ◌<ℤ◌, arith, to_z, of_z, to_z-of_z}, lemmas.Int.{ints, fits_signed_from_abs}}
use Rattle.std.specs.Int.{int_signum}
use mir.Syntax.{w32}
use Rattle.mdp_math.specs.Rational.{◌<ℚ◌}
use Rattle.mdp_math.proofs.Order.{0ℚ}
use Rattle.mdp_num.proofs.{Values.{num-bits, narrow_value, result-bits}, Signs.{sign-zero, sign-positive, sign-negative}}
use Rattle.mdp_num.proofs.frac.Frac.sign.Goals as goal

-- a number from -1 to 1, from its 32 bits
small-bits : (z : ℤ) → neg_ℤ (pos 1) ≤ℤ z → z ≤ℤ pos 1 → to_z w32 (of_z w32 z) ≡ z
small-bits z low high = to_z-of_z (fits_signed_from_abs w32 z (omega (arith, ints)))

pub returns : goal.returns
returns c =
    let e = ap (λ (z : ℤ). to_z w32 (of_z w32 z)) {y = c.signum.result} (result-bits _ c.signum.type_inv) ∙ small-bits _ c.signum.ensures.lower_bound c.signum.ensures.upper_bound
    ∙ c.signum.ensures.value ∙ ap int_signum (num-bits _ _ c.self.view_is c.self.invariant) in
    record {
      value = e;
      zero = subst (λ (z : ℤ). (z ≡ pos 0) ↔ (c.args.self.now ≡ 0ℚ)) (sym e) (sign-zero c.args.self.now);
      positive = subst (λ (z : ℤ). (pos 0 <ℤ z) ↔ (0ℚ <ℚ c.args.self.now)) (sym e) (sign-positive c.args.self.now);
      negative = subst (λ (z : ℤ). (z <ℤ pos 0) ↔ (c.args.self.now <ℚ 0ℚ)) (sym e) (sign-negative c.args.self.now);
      narrow = narrow_value _ _ c.self.view_is c.self.invariant;
    }

use Rattle.std.proofs.{Common.{arith, subst, ◌∙◌, ap, sym, pos, ◌-ℤ◌, ◌<◌, ◌^◌, unsigned_abs, neg_ℤ, ◌≡◌, ℤ, to_z, of_z}, lemmas.Int.{ints}}
use mir.Syntax.{w128}
use Rattle.mdp_math.specs.Rational.{ℚ, neg_ℚ}
use Rattle.mdp_math.proofs.Laws.{num-neg, den-neg}
use Rattle.mdp_num.proofs.Values.{num-bits, den-bits, value_from_terms, num-value}
use Rattle.mdp_num.proofs.frac.Frac.negate.Goals as goal

minus : (z w : ℤ) → w ≡ z → unsigned_abs z < 2 ^ 127 → to_z w128 (of_z w128 (pos 0 -ℤ w)) ≡ neg_ℤ z
minus z w e h = omega (arith, ints)

pub returns : goal.returns
returns c =
    let same : c.self.inside.num ≡ ℚ.num c.args.self.now = sym (num-value c.self.inside c.self.invariant) ∙ ap (λ (z : ℚ). z.num) c.self.view_is in
    value_from_terms _ (neg_ℚ c.args.self.now)
    (minus (ℚ.num c.args.self.now) _ (num-bits _ _ c.self.view_is c.self.invariant) (subst (λ (z : ℤ). unsigned_abs z < 2 ^ 127) same c.self.invariant.narrow_num) ∙ sym (num-neg c.args.self.now))
    (den-bits _ _ c.self.view_is c.self.invariant ∙ ap pos (sym (den-neg c.args.self.now)))

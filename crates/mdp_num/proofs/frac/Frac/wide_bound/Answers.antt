use Rattle.std.proofs.Common.{◌*◌, ℕ, ◌≤◌, ◌^◌, unsigned_abs, ap, ap₂, ◌∙◌, subst}
use Rattle.mdp_num.proofs.Values.{num-bits, den-bits, narrow_value}
use Rattle.mdp_num.proofs.frac.Frac.wide_bound.Goals as goal

pub returns-clause-value : goal.returns-clause-value
returns-clause-value c = subst (λ (n : ℕ). c.high_product.result * 2 ^ 128 ≤ n)
    (ap₂ ◌*◌ (c.unsigned_abs.ensures.value ∙ ap unsigned_abs (num-bits _ _ c.self.view_is c.self.invariant))
    (c.unsigned_abs-2.ensures.value ∙ ap unsigned_abs (den-bits _ _ c.other.view_is c.other.invariant)))
    c.high_product.ensures

pub returns-clause-narrow : goal.returns-clause-narrow
returns-clause-narrow c = narrow_value _ _ c.other.view_is c.other.invariant

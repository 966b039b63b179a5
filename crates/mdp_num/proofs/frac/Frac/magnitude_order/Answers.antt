use Rattle.std.proofs.Common.{◌*◌, unsigned_abs, nat_cmp, ap, ap₂, ◌∙◌}
use Rattle.mdp_num.proofs.Values.{num-bits, den-bits}
use Rattle.mdp_num.proofs.frac.Frac.magnitude_order.Goals as goal

pub returns : goal.returns
returns c =
    c.fraction_order.ensures
    ∙ ap₂ nat_cmp
    (ap₂ ◌*◌ (c.unsigned_abs.ensures.value ∙ ap unsigned_abs (num-bits _ _ c.self.view_is c.self.invariant))
    (c.unsigned_abs-4.ensures.value ∙ ap unsigned_abs (den-bits _ _ c.other.view_is c.other.invariant)))
    (ap₂ ◌*◌ (c.unsigned_abs-3.ensures.value ∙ ap unsigned_abs (num-bits _ _ c.other.view_is c.other.invariant))
    (c.unsigned_abs-2.ensures.value ∙ ap unsigned_abs (den-bits _ _ c.self.view_is c.self.invariant)))

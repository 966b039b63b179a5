use Rattle.std.proofs.Common.{◌<◌, ◌^◌, ℤ, unsigned_abs, to_z-of_z, sym, ◌∙◌, subst}
use Rattle.mdp_rows.proofs.ShortSums.{product-read, value-read}
use Rattle.mdp_rows.proofs.row.Denominators.numerator.Goals as goal

pub returns-in-Ok-clause-value : goal.returns-in-Ok-clause-value
returns-in-Ok-clause-value c =
    value-read c.args.value.now _ _ c.args.self.probs c.args.self.values c.args.self.some_probs c.args.self.some_values c.in_ok-num.ensures.value.same
    (product-read _ _ _ _ _ c.from.type_inv (c.from.ensures ∙ to_z-of_z c.in_ok-num.ensures.value.long) c.from-2.type_inv c.from-2.ensures c.in-Ok.ensures).0

pub returns-in-Ok-clause-narrow : goal.returns-in-Ok-clause-narrow
returns-in-Ok-clause-narrow c =
    let p = product-read _ _ _ _ _ c.from.type_inv (c.from.ensures ∙ to_z-of_z c.in_ok-num.ensures.value.long) c.from-2.type_inv c.from-2.ensures c.in-Ok.ensures in
    subst (λ (z : ℤ). unsigned_abs z < 2 ^ 127) (sym p.0) p.1

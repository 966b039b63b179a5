use Rattle.std.proofs.Common.{◌<◌, ◌^◌, ℤ, unsigned_abs, to_z-of_z, sym, ◌∙◌, subst}
use Rattle.mdp_rows.proofs.ShortSums.{product-read, term-read}
use Rattle.mdp_rows.proofs.row.Denominators.term.Goals as goal

pub returns-in-Ok-clause-value : goal.returns-in-Ok-clause-value
returns-in-Ok-clause-value c =
    term-read c.args.prob.now c.args.value.now _ _ _ c.args.self.probs c.args.self.values c.args.self.some_probs c.args.self.some_values c.args.self.narrow
    c.in_ok-num.ensures.value.same c.in_ok-other.ensures.value.same
    (product-read _ _ _ _ _ c.from.type_inv (c.from.ensures ∙ to_z-of_z c.in_ok-num.ensures.value.long) c.from-2.type_inv (c.from-2.ensures ∙ to_z-of_z c.in_ok-other.ensures.value.long) c.in-Ok.ensures)

pub returns-in-Ok-clause-narrow : goal.returns-in-Ok-clause-narrow
returns-in-Ok-clause-narrow c =
    let p = product-read _ _ _ _ _ c.from.type_inv (c.from.ensures ∙ to_z-of_z c.in_ok-num.ensures.value.long) c.from-2.type_inv (c.from-2.ensures ∙ to_z-of_z c.in_ok-other.ensures.value.long) c.in-Ok.ensures in
    subst (λ (z : ℤ). unsigned_abs z < 2 ^ 127) (sym p.0) p.1

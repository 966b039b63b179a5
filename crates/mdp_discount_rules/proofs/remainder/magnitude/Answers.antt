use Rattle.std.proofs.Common.{◌∙◌, sym, rules, ⊎_elim, pos}
use Rattle.std.specs.Prelude.{◌<ℤ◌}
use Rattle.mdp_math.proofs.Order.{0ℚ, ≤ℚ_or_gt}
use Rattle.mdp_discount_rules.proofs.Magnitudes.{magnitude-below, magnitude-above}
use Rattle.mdp_discount_rules.proofs.remainder.magnitude.Goals as goal

pub returns-then-sign-lt0 : goal.returns-then-sign-lt0
returns-then-sign-lt0 c =
    let below : c.sign.result <ℤ pos 0 = search (rules, c.if-sign-lt0.true) in
    c.negate.ensures ∙ sym (magnitude-below c.args.number.now (c.sign.ensures.negative.0 below))

pub returns-else-sign-lt0 : goal.returns-else-sign-lt0
returns-else-sign-lt0 c =
    ⊎_elim (λ above. sym (magnitude-above c.args.number.now above))
    (λ below. let sign : c.sign.result <ℤ pos 0 = c.sign.ensures.negative.1 below in absurd (search (rules, sign, c.if-sign-lt0.false)))
    (≤ℚ_or_gt 0ℚ c.args.number.now)

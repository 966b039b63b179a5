use Rattle.std.proofs.Common.{rules, ⊎_elim, pos, subst, ℤ}
use Rattle.std.specs.Prelude.{◌<ℤ◌, ◌≤ℤ◌}
use Rattle.mdp_math.proofs.Order.{0ℚ, ≤ℚ_or_gt}
use Rattle.mdp_discount_text.proofs.Factors.{factor-yes, factor-low, factor-high, below-one, above-one}
use Rattle.mdp_discount_text.proofs.claim_line.is_factor.Goals as goal

pub returns-then-sign-lt0 : goal.returns-then-sign-lt0
returns-then-sign-lt0 c =
    let below : c.sign.result <ℤ pos 0 = search (rules, c.if-sign-lt0.true) in factor-low c.args.factor.now (c.sign.ensures.negative.0 below)

pub returns-then-num-den : goal.returns-then-num-den
returns-then-num-den c =
    let above : c.den.result ≤ℤ c.num.result = search (rules, c.if-num-den.true) in
    factor-high c.args.factor.now (above-one c.args.factor.now (subst (λ (x : ℤ). x ≤ℤ c.args.factor.now.num) c.den.ensures.value (subst (λ (x : ℤ). c.den.result ≤ℤ x) c.num.ensures.value above)))

pub returns : goal.returns
returns c =
    let below : c.num.result <ℤ c.den.result = search (rules, c.if-num-den.false) in
    let one = below-one c.args.factor.now (subst (λ (x : ℤ). x <ℤ pos c.args.factor.now.den) c.num.ensures.value (subst (λ (x : ℤ). c.num.result <ℤ x) c.den.ensures.value below)) in
    ⊎_elim (λ zero_. factor-yes c.args.factor.now zero_ one)
    (λ low. let sign : c.sign.result <ℤ pos 0 = c.sign.ensures.negative.1 low in absurd (search (rules, sign, c.if-sign-lt0.false)))
    (≤ℚ_or_gt 0ℚ c.args.factor.now)

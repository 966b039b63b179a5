use Rattle.std.proofs.Common.{◌∙◌, ℕ, List, ap}
use Rattle.mdp_math.specs.Rational.{ℚ}
use Rattle.mdp_farkas.specs.Verdict.{verdict, verdict_of}
use Rattle.mdp_discount_rules.specs.Checks.{discount_checks}
use Rattle.mdp_discount_rules.proofs.DiscountRules.{discount_rules, discount_bound}
use Rattle.mdp_discount_rules.proofs.holds.holds_discount.Goals as goal

pub returns : goal.returns
returns c =
    let x = c.args.cert.now in
    let m = c.args.model.now in
    let choices = x.one_each ∙ c.requires.values in
    let e = c.verdict_after.ensures
    ∙ ap verdict c.walk.ensures
    ∙ ap (λ (v : List ℚ). verdict_of (discount_checks x.dir m c.args.m x.factor v x.remainder c.as_slice-2.result.now)) c.as_slice.ensures.value
    ∙ ap (λ (p : List ℕ). verdict_of (discount_checks x.dir m c.args.m x.factor x.values.items x.remainder p)) c.as_slice-2.ensures.value in
    record {
      verdict = e;
      rules = discount_rules x.dir m c.args.m x.factor x.values.items x.remainder x.choices.items c.verdict_after.result c.requires.name c.requires.values choices e;
      bound = discount_bound x.dir m c.args.m x.factor x.values.items x.remainder x.choices.items c.verdict_after.result c.requires.name c.requires.values choices e c.known.ensures.mdp x.discount;
    }

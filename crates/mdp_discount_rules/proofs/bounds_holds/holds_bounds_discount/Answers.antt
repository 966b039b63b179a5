use Rattle.std.proofs.Common.{◌≡◌, ap, sym, ◌∙◌}
use Rattle.mdp_farkas.specs.Verdict.{verdict, verdict_of}
use Rattle.mdp_discount_rules.specs.BoundsChecks.{discount_bounds_checks}
use Rattle.mdp_discount_rules.proofs.{BoundsRules.{bounds_rules, bounds_max, bounds_min}, Trivial.{trivial_yes}}
use Rattle.mdp_discount_rules.proofs.bounds_holds.holds_bounds_discount.Goals as goal

pub returns : goal.returns
returns c =
    let d = c.args.dir in
    let m = c.args.model.now in
    let r = c.args.m in
    let f = c.args.factor.now in
    let b = c.args.bounds.now in
    let k = c.known.ensures.mdp in
    let q = c.requires in
    let e : c.verdict_after.result ≡ verdict_of (discount_bounds_checks d m r f b.lower.items b.upper.items b.remainder b.choices.items) =
    rw (sym c.as_slice.ensures.value, sym c.as_slice-2.ensures.value, sym c.as_slice-3.ensures.value) (c.verdict_after.ensures ∙ ap verdict c.walk.ensures) in
    record {
      verdict = e;
      rules = bounds_rules d m r f b.lower.items b.upper.items b.remainder b.choices.items k c.verdict_after.result q.name q.lower q.upper q.choices e;
      max = bounds_max d m r f b.lower.items b.upper.items b.remainder b.choices.items k c.verdict_after.result q.name q.lower q.upper q.choices e q.factor;
      min = bounds_min d m r f b.lower.items b.upper.items b.remainder b.choices.items k c.verdict_after.result q.name q.lower q.upper q.choices e q.factor;
      trivial = λ t. e ∙ trivial_yes m b.lower.items b.upper.items b.remainder b.choices.items t c.requires.lower c.requires.upper r f d;
    }

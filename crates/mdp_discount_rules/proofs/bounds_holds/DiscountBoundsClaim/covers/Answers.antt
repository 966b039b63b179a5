use Rattle.std.proofs.Common.{List, Option, ap, ◌∙◌}
use Rattle.mdp_math.specs.Rational.{ℚ}
use Rattle.mdp_farkas.specs.Verdict.{at_choices, objection_to}
use Rattle.mdp_discount_rules.specs.BoundsChecks.{each_check}
use Rattle.mdp_discount_rules.proofs.bounds_holds.DiscountBoundsClaim.covers.Goals as goal

pub returns : goal.returns
returns c =
    let x = c.args.self in
    c.each_choice.ensures
    ∙ ap (λ (v : List (Option ℚ)). objection_to (at_choices x.model.now c.args.s (each_check x.dir x.model.now x.name x.factor.now v c.args.s))) c.covering.ensures.values

use Rattle.std.proofs.Common.{Bool, [], ◌∷◌, List, Option, ap, ◌∙◌}
use Rattle.mdp_math.specs.Rational.{ℚ}
use Rattle.mdp_rows.specs.declared.dir.Dir.{Dir}
use Rattle.mdp_farkas.specs.{Reach.{other}, Verdict.{at_choice, objection_to}}
use Rattle.mdp_claims.specs.declared.rule.Rule.TheVariants.{DiscountedOnPolicy}
use Rattle.mdp_bounds.specs.Says.{covering_rewards}
use Rattle.mdp_discount_rules.specs.BoundsChecks.{policy_check}
use Rattle.mdp_discount_rules.proofs.bounds_holds.DiscountBoundsClaim.follows.Goals as goal

pub returns : goal.returns
returns c =
    let x = c.args.self in
    c.judged.ensures
    ∙ ap (λ (h : Option Bool). objection_to (at_choice DiscountedOnPolicy c.args.s c.args.choice h ∷ [])) c.allows.ensures
    ∙ ap (λ (d : Dir). objection_to (policy_check d x.model.now x.name x.factor.now c.covering.result.now c.args.s c.args.choice ∷ [])) c.reversed-dir.ensures
    ∙ ap (λ (v : List (Option ℚ)). objection_to (policy_check (other x.dir) x.model.now x.name x.factor.now v c.args.s c.args.choice ∷ []))
    (c.covering.ensures.values ∙ ap (λ (d : Dir). covering_rewards d x.lower.now x.upper.now) c.reversed-dir.ensures)

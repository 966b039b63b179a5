use Rattle.std.proofs.Common.{rules, ◌^◌, ◌-◌, ℤ, arith, subst, to_z-of_z}
use Rattle.std.specs.Prelude.{FitsSigned}
use mir.Syntax.{w128}
use Rattle.mdp_math.specs.Rational.{ratio, ◌≤ℚ◌}
use Rattle.mdp_search_bounds.proofs.Nearness.{near_of}
use Rattle.mdp_search_bounds.proofs.gap.lacking_digits.Goals as goal

pub returns-then-is_within : goal.returns-then-is_within
returns-then-is_within c digits few =
    let fits : FitsSigned w128 c.magnitude-scale.result = search rules in
    let within : c.in-Ok.gap ≤ℚ ratio c.magnitude-scale.result (10 ^ (30 - c.loop-lacking.lacking)) =
    subst (λ (z : ℤ). c.in-Ok.gap ≤ℚ ratio z (10 ^ (30 - c.loop-lacking.lacking))) (to_z-of_z fits) (c.is_within.ensures c.if-is_within.true) in
    near_of c.args.lower.now c.args.upper.now c.in-Ok.gap (30 - c.loop-lacking.lacking) digits (omega arith) (c.in-Ok.ensures {u = tt})
    (subst (λ (z : ℤ). c.in-Ok.gap ≤ℚ ratio z (10 ^ (30 - c.loop-lacking.lacking))) c.magnitude-scale.ensures within)

use Rattle.std.proofs.Common.{ap, map, ◌∙◌}
use Rattle.mdp_math.specs.Rational.{ℚ}
use Rattle.mdp_spec.specs.Bounds.{finite_part}
use Rattle.mdp_rows.specs.declared.dir.Dir.TheVariants.{Max}
use Rattle.mdp_bounds.specs.Mean.{exact_best}
use Rattle.mdp_discount_rules.specs.Rules.{magnitude}
use Rattle.mdp_discount_rules.proofs.BoundsGreatest.{greatest_by_lists}
use Rattle.mdp_discount_rules.proofs.bounds_remainder.greatest_bounds_magnitude.Goals as goal

pub returns : goal.returns
returns c =
    c.greatest_from-2.ensures
    ∙ ap (λ (x : ℚ). exact_best Max x (map magnitude (finite_part c.args.upper.now)))
    (c.greatest_from.ensures ∙ ap (λ (x : ℚ). exact_best Max x (map magnitude (finite_part c.args.lower.now))) c.whole.ensures)
    ∙ greatest_by_lists c.args.lower.now c.args.upper.now

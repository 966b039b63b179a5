use Rattle.std.proofs.Common.{List, ap, ◌∙◌}
use Rattle.mdp_math.specs.Rational.{ℚ}
use Rattle.mdp_rows.specs.declared.dir.Dir.{Dir}
use Rattle.mdp_farkas.specs.Verdict.{objection_to}
use Rattle.mdp_bounds.specs.{Reach.{covering}, Mean.{gains_follow}}
use Rattle.mdp_bounds.proofs.mean.MeanBoundsClaim.follows.Goals as goal

pub returns : goal.returns
returns c =
    let x = c.args.self in
    c.on_policy.ensures
    ∙ ap (λ (g : List ℚ). objection_to (gains_follow x.dir x.model.now x.name g x.bias.now c.args.s c.args.choice))
    (c.covering.ensures.values ∙ ap (λ (d : Dir). covering d x.lower.values.now x.upper.values.now) c.reversed.ensures)

use Rattle.std.proofs.Common.{◌∙◌, Option, Some, ℤ, ap, rules, to_z-of_z}
use mir.Syntax.{w128}
use mir.Val.{SFits}
use Rattle.mdp_horizon.specs.{Scaled.{or_else, trivial, rounded_sum}, BoundsCode.{plain_choice, values_of}}
use Rattle.mdp_horizon.proofs.choice.ScaledChoice.rounded_sum.Goals as goal

pub returns-in-Some : goal.returns-in-Some
unfolding rounded_sum
returns-in-Some c =
    let f : SFits w128 c.in-Some.sum = search rules in
    ap (λ (z : ℤ). let o : Option ℤ = Some z in o) (to_z-of_z f)
    ∙ ap (λ (o : Option ℤ). or_else o (trivial c.args.side (values_of c.args.column.now) (plain_choice c.args.self.now))) c.in-Some.ensures

pub returns-in-None : goal.returns-in-None
unfolding rounded_sum
returns-in-None c =
    c.trivial.ensures ∙ ap (λ (o : Option ℤ). or_else o (trivial c.args.side (values_of c.args.column.now) (plain_choice c.args.self.now))) c.in-None.ensures

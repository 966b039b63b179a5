use Rattle.std.proofs.Common.{◌∙◌, ℤ, ◌*ℤ◌, Some, sym, ap₂, rules, to_z-of_z}
use mir.Syntax.{w128}
use mir.Val.{SFits}
use Rattle.mdp_math.specs.Written.{narrow}
use Rattle.mdp_horizon.specs.Columns.{is_ahead}
use Rattle.mdp_horizon.proofs.Past.{reached}
use Rattle.mdp_horizon.proofs.best.is_past.Goals as goal

pub returns-in-Some : goal.returns-in-Some
returns-in-Some c = λ h.
    let f : SFits w128 c.in-Some.limit = search rules in
    reached c.args.dir c.args.far c.args.n c.args.d c.in-Some.limit
    (c.in-Some.ensures.value ∙ ap₂ (λ (x y : ℤ). narrow (x *ℤ y)) (to_z-of_z c.ranges.far) (to_z-of_z c.ranges.d))
    (sym (ap₂ (λ (x y : ℤ). is_ahead c.args.dir (Some x) (Some y)) (to_z-of_z c.ranges.n) (to_z-of_z f)) ∙ sym c.is_better.ensures ∙ h)

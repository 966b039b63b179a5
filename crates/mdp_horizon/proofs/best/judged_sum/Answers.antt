use Rattle.std.proofs.Common.{◌∙◌, ℤ, Some, sym, ap, ap₂, rules, to_z-of_z}
use mir.Syntax.{w128}
use mir.Val.{SFits}
use Rattle.mdp_rows.specs.declared.dir.Dir.{Dir}
use Rattle.mdp_horizon.specs.{Whole.{rounded, opposite}, Scaled.{trivial}, Columns.{judged}, BoundsCode.{values_of, plain_choice}}
use Rattle.mdp_horizon.proofs.Past.{sum_divided, sum_trivial}
use Rattle.mdp_horizon.proofs.best.judged_sum.Goals as goal

pub returns-in-Some : goal.returns-in-Some
returns-in-Some c =
    let f : SFits w128 c.in-Some.sum = search rules in
    let g : SFits w128 c.args.choice.now.scale.common = search rules in
    c.judged_quotient.ensures
    ∙ ap (judged c.args.dir c.args.c c.args.leader)
    (ap₂ (λ (n d : ℤ). Some (rounded (opposite c.args.dir) n d)) (to_z-of_z f) (to_z-of_z g)
    ∙ sym (sum_divided (opposite c.args.dir) (values_of c.args.column.now) (plain_choice c.args.choice.now) c.in-Some.sum c.in-Some.ensures.value))

pub returns-in-None : goal.returns-in-None
returns-in-None c =
    c.judged.ensures
    ∙ ap (judged c.args.dir c.args.c c.args.leader)
    (c.trivial.ensures ∙ ap (λ (d : Dir). trivial d (values_of c.args.column.now) (plain_choice c.args.choice.now)) c.opposite.ensures
    ∙ sym (sum_trivial (opposite c.args.dir) (values_of c.args.column.now) (plain_choice c.args.choice.now) c.in-None.ensures.value))

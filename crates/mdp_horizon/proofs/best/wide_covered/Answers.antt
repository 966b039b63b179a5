use Rattle.std.proofs.Common.{◌∙◌, ◌+◌, ◌∷◌, ℤ, Some, None, drop, sym, ap, arith, rules, to_z-of_z}
use mir.Syntax.{w128}
use mir.Val.{to_z, SFits}
use Rattle.mdp_horizon.specs.{Columns.{covered_from, no_scaled}, Scaled.{Scaled}, BoundsCode.{values_of, plain_choices}}
use Rattle.mdp_horizon.proofs.Loops.{covered_step, rest_of}
use Rattle.mdp_horizon.proofs.best.wide_covered.Goals as goal

pub returns-in_err-far-2 : goal.returns-in_err-far-2
returns-in_err-far-2 c =
    c.from_residual-in_err-far-2.ensures
    ∙ sym (c.loop-c.invariant
    ∙ covered_step c.args.dir (values_of c.args.column.now) (to_z w128 c.loop-c.far-bits) (plain_choices c.args.choices.now) c.loop-c.c _ None
    (rest_of (plain_choices c.args.choices.now) c.loop-c.c no_scaled (omega arith) ∙ ap (λ (x : Scaled). x ∷ drop (c.loop-c.c + 1) (plain_choices c.args.choices.now)) (sym c.at-choice.ensures)) (sym c.covered_with.ensures ∙ c.in_err-far-2.was {u = tt}))

pub loop-c-preserved : goal.loop-c-preserved
loop-c-preserved c =
    let f : SFits w128 c.in_ok-far-2.far = search rules in
    c.loop-c.invariant
    ∙ covered_step c.args.dir (values_of c.args.column.now) (to_z w128 c.loop-c.far-bits) (plain_choices c.args.choices.now) c.loop-c.c _ (Some c.in_ok-far-2.far)
    (rest_of (plain_choices c.args.choices.now) c.loop-c.c no_scaled (omega arith) ∙ ap (λ (x : Scaled). x ∷ drop (c.loop-c.c + 1) (plain_choices c.args.choices.now)) (sym c.at-choice.ensures)) (sym c.covered_with.ensures ∙ c.in_ok-far-2.was {u = tt})
    ∙ ap (λ (z : ℤ). covered_from c.args.dir (values_of c.args.column.now) z (drop (c.loop-c.c + 1) (plain_choices c.args.choices.now))) (sym (to_z-of_z f))

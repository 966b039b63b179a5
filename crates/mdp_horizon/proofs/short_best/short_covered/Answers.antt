use Rattle.std.proofs.Common.{◌∙◌, ◌+◌, ℤ, Some, length, map, drop, sym, ap, arith, rules, to_z-of_z}
use mir.Syntax.{w64}
use mir.Val.{to_z, SFits}
use Rattle.mdp_horizon.specs.{Columns.{covered_from, no_scaled}, Short.{known}, BoundsCode.{plain_short}}
use Rattle.mdp_horizon.proofs.{Loops.{covered_step}, More.{rest_with}, Ready.{ready_at}}
use Rattle.mdp_horizon.proofs.short_best.short_covered.Goals as goal

pub short_sum-requires : goal.short_sum-requires
short_sum-requires c = ready_at plain_short (length c.args.values.now) c.args.choices.now 0 c.index-choices-0.result (omega (arith, c.requires.some)) c.index-choices-0.is c.requires.ready

pub covered_with-requires : goal.covered_with-requires
covered_with-requires c = ready_at plain_short (length c.args.values.now) c.args.choices.now c.loop-c.c c.index-choices-c.result (omega arith) c.index-choices-c.is c.requires.ready

pub loop-c-preserved : goal.loop-c-preserved
loop-c-preserved c =
    let f : SFits w64 c.in_ok-far-2.far = search rules in
    c.loop-c.invariant
    ∙ covered_step c.args.dir (known c.args.values.now) (to_z w64 c.loop-c.far-bits) (map plain_short c.args.choices.now) c.loop-c.c _ (Some c.in_ok-far-2.far)
    (rest_with plain_short c.args.choices.now c.loop-c.c c.index-choices-c.result no_scaled (omega arith) c.index-choices-c.is) (c.in_ok-far-2.ensures {u = tt})
    ∙ ap (λ (z : ℤ). covered_from c.args.dir (known c.args.values.now) z (drop (c.loop-c.c + 1) (map plain_short c.args.choices.now))) (sym (to_z-of_z f))

use Rattle.std.proofs.{Common.{◌∙◌, Some, ℤ, pos, map, ap, arith, to_z-of_z}, lemmas.List.{take_all}}
use mir.Syntax.{w128}
use mir.Val.{to_z, of_z}
use Rattle.mdp_horizon.specs.{Columns.{shown}, BoundsCode.{values_of}}
use Rattle.mdp_horizon.proofs.More.{taken_more}
use Rattle.mdp_horizon.proofs.bounds_induction.shown_column.Goals as goal

pub loop-s-preserved : goal.loop-s-preserved
loop-s-preserved c =
    (c.in_ok-push.ensures {u = tt}).items
    ∙ taken_more (shown (to_z w128 (of_z w128 c.args.one))) (values_of c.args.column.now) c.loop-s.s (Some (pos 0)) c.loop-s.values.items c.shown.result (omega arith)
    c.loop-s.invariant (c.shown.ensures ∙ ap (shown (to_z w128 (of_z w128 c.args.one))) c.at.ensures)

pub returns : goal.returns
returns c =
    c.loop-s.invariant
    ∙ ap (map (shown (to_z w128 (of_z w128 c.args.one)))) (take_all c.loop-s.s (values_of c.args.column.now) (omega arith))
    ∙ ap (λ (one : ℤ). map (shown one) (values_of c.args.column.now)) (to_z-of_z c.ranges.one)

use Rattle.std.proofs.Common.{◌∙◌, ◌+◌, ◌<◌, ◌^◌, ℤ, unsigned_abs, Some, None, drop, get_or, sym, ap, subst, arith, to_z-of_z}
use mir.Syntax.{w128}
use mir.Val.{to_z}
use Rattle.mdp_spec.specs.Row.{entries}
use Rattle.mdp_horizon.specs.Scaled.{common_in}
use Rattle.mdp_horizon.proofs.Loops.{back, common_step}
use Rattle.mdp_horizon.proofs.scaling.common_in.Goals as goal

pub returns-in_err-common-clause-value : goal.returns-in_err-common-clause-value
returns-in_err-common-clause-value c =
    let ts = c.args.row.targets.now in
    let ps = c.args.row.probs.now in
    let first = to_z-of_z c.ranges.first in
    let step = common_step (to_z w128 c.loop-i.common-bits) ts ps c.loop-i.i (get_or ps c.loop-i.i c.index-row-i.result) None c.args.row.same_length (omega arith) (ap (get_or ps c.loop-i.i) c.index-row-i.is)
    (sym c.common_with.ensures.value ∙ c.in_err-common.was {u = tt}) in
    c.from_residual.ensures ∙ sym (ap (λ (z : ℤ). common_in z (entries ts ps)) (sym first) ∙ c.loop-i.invariant.rest ∙ step)

pub loop-i-preserved : goal.loop-i-preserved
loop-i-preserved c =
    let ts = c.args.row.targets.now in
    let ps = c.args.row.probs.now in
    let small = (c.in_ok-common.ensures {u = tt}).narrow in
    let again = back c.in_ok-common.common small in
    let step = common_step (to_z w128 c.loop-i.common-bits) ts ps c.loop-i.i (get_or ps c.loop-i.i c.index-row-i.result) (Some c.in_ok-common.common) c.args.row.same_length (omega arith)
    (ap (get_or ps c.loop-i.i) c.index-row-i.is) (sym (c.in_ok-common.ensures {u = tt}).value) in
    record {
      rest = c.loop-i.invariant.rest ∙ step ∙ ap (λ (z : ℤ). common_in z (entries (drop (c.loop-i.i + 1) ts) (drop (c.loop-i.i + 1) ps))) (sym again);
      narrow = subst (λ (z : ℤ). unsigned_abs z < 2 ^ 127) (sym again) small;
    }

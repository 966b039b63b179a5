use Rattle.std.proofs.{Common.{◌∙◌, sym, ap, get_or, arith}, lemmas.List.{get_or_default}}
use Rattle.std.specs.Result.{result_ok}
use Rattle.mdp_policy_iteration.proofs.OuterSums.{outer-step}
use Rattle.mdp_policy_iteration.proofs.outer.outer_sum.Goals as goal

pub loop-i-preserved : goal.loop-i-preserved
loop-i-preserved c =
    c.loop-i.invariant
    ∙ outer-step c.args.active.now c.args.values.now c.loop-i.sum c.args.row.targets.now c.args.row.probs.now c.loop-i.i (get_or c.args.row.targets.now c.loop-i.i 0)
    (get_or c.args.row.probs.now c.loop-i.i c.index-row-i.result) (omega arith) c.args.row.same_length
    (get_or_default c.args.row.targets.now c.loop-i.i 0 _ (omega arith))
    (get_or_default c.args.row.probs.now c.loop-i.i c.index-row-i.result _ (omega (arith, c.args.row.same_length))) c.in_ok-sum.sum
    (ap result_ok (sym (c.in_ok-sum.was {u = tt})) ∙ c.plus_outer.ensures)

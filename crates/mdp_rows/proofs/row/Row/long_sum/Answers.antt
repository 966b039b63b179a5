use Rattle.std.proofs.{Common.{sym, ◌∙◌}, lemmas.Result.{err_from_is_err_and}}
use Rattle.mdp_rows.proofs.ShortSums.{written_sum-next, written_sum-step}
use Rattle.mdp_rows.proofs.row.Row.long_sum.Goals as goal

pub loop-i-preserved : goal.loop-i-preserved
loop-i-preserved g c =
    c.loop-i.invariant ∙ written_sum-step (g.V.ValuesOf.values c.args.values.now) c.args.self.targets.now c.args.self.probs.now c.loop-i.i c.index-self-i.result c.value_of.result _ _ _
    c.loop-i-test.true c.args.self.same_length c.value_of.ensures (sym (c.in_ok-term.ensures {u = tt})) (sym (c.in_ok-sum.ensures {u = tt}))

pub returns-in_err-term : goal.returns-in_err-term
returns-in_err-term g c =
    let p = err_from_is_err_and c.from_residual.result c.from_residual.ensures.1 in
    let n = c.loop-i.invariant ∙ written_sum-next (g.V.ValuesOf.values c.args.values.now) c.args.self.targets.now c.args.self.probs.now c.loop-i.i c.index-self-i.result c.value_of.result _
    c.loop-i-test.true c.args.self.same_length c.value_of.ensures in
    rw p.1 (sym (rw (sym (c.in_err-term.ensures {u = tt})) at n))

pub returns-in_err-sum : goal.returns-in_err-sum
returns-in_err-sum g c =
    let p = err_from_is_err_and c.from_residual-in_err-sum.result c.from_residual-in_err-sum.ensures.1 in
    let n = c.loop-i.invariant ∙ written_sum-next (g.V.ValuesOf.values c.args.values.now) c.args.self.targets.now c.args.self.probs.now c.loop-i.i c.index-self-i.result c.value_of.result _
    c.loop-i-test.true c.args.self.same_length c.value_of.ensures in
    rw p.1 (sym (rw (sym (c.in_ok-term.ensures {u = tt}), sym (c.in_err-sum.ensures {u = tt})) at n))

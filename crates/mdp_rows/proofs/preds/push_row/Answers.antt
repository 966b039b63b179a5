use Rattle.std.proofs.{Common.{List, [], ◌∷◌, ◌++◌, get_or, set, refl, ap, ◌∙◌, arith}, lemmas.List.{get_or_default}}
use Rattle.mdp_rows.specs.declared.preds.Pred.{Pred}
use Rattle.mdp_rows.proofs.Queries.Preds.{one_pushed}
use Rattle.mdp_rows.proofs.preds.push_row.Goals as goal

pub loop-t-preserved : goal.loop-t-preserved
loop-t-preserved c =
    let t = get_or c.args.targets.now c.loop-t.t-index 0 in
    let below = c.requires.in_range c.loop-t.t-index 0 c.loop-t-test.true in
    let list = c.index_mut.ensures.value ∙ get_or_default c.loop-t.lists.items t c.index_mut.result.now [] (omega (arith, below, c.loop-t.invariant.count)) in
    one_pushed c.args.lists.now.items c.loop-t.lists.items _ c.args.targets.now c.loop-t.t-index t c.args.pred c.loop-t.invariant c.loop-t-test.true refl below
    (c.requires.different c.loop-t.t-index c.loop-t-test.true)
    (ap (λ (l : List Pred). set c.loop-t.lists.items t l) (c.in_ok-push.ensures {u = tt} ∙ ap (λ (l : List Pred). l ++ c.args.pred ∷ []) list))

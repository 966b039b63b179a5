use Rattle.std.proofs.Common.{◌++◌, ◌∷◌, [], get_or, ap, ◌∙◌, List}
use Rattle.mdp_rows.specs.{Preds.{pair}, declared.preds.Pred.{Pred}}
use Rattle.mdp_rows.proofs.Queries.Preds.{different, more_led, pushed_leads, choices_more}
use Rattle.mdp_rows.proofs.preds.push_state.Goals as goal

pub push_row-requires-clause-different : goal.push_row-requires-clause-different
push_row-requires-clause-different c = λ i h. different c.row.result.targets.now c.row.result.probs.now 0 i c.row.result.same_length c.row.result.distribution.ascending h

pub loop-c-preserved : goal.loop-c-preserved
loop-c-preserved c =
    rw (choices_more c.args.s c.loop-c.c)
    (more_led _ _ c.loop-c.lists.items _ _ (pair c.args.s c.loop-c.c ∷ []) c.loop-c.invariant c.in_ok-push_row.ensures.length
    (λ t h. c.in_ok-push_row.ensures.appended t h ∙ ap (λ (x : List Pred). get_or c.loop-c.lists.items t [] ++ x)
    (pushed_leads c.args.model.now c.args.s c.loop-c.c c.row.result.targets.now c.row.result.probs.now t c.row.result.same_length c.row.ensures.row)))

use Rattle.std.proofs.{Common.{◌++◌, [], ◌∷◌, get_or, map, sym, ap, ◌∙◌, arith}, lemmas.List.{map_more, take_all}}
use Rattle.mdp_cert.proofs.column.column_of.Goals as goal

pub loop-entry-preserved : goal.loop-entry-preserved
loop-entry-preserved g c =
    c.in_ok-push.ensures.items
    ∙ ap (λ v. c.loop-entry.column.items ++ v ∷ []) (c.of.ensures ∙ ap g.C.Column.field c.entry-item.is)
    ∙ ap (λ ys. ys ++ g.C.Column.field (get_or c.args.entries.now c.loop-entry.entry-index c.entry-item.result) ∷ []) c.loop-entry.invariant
    ∙ sym (map_more g.C.Column.field c.args.entries.now c.loop-entry.entry-index c.entry-item.result (omega arith))

pub returns : goal.returns
returns g c = c.loop-entry.invariant ∙ ap (map g.C.Column.field) (take_all c.loop-entry.entry-index c.args.entries.now (omega arith))

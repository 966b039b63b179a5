use Rattle.std.proofs.{Common.{drop, ◌+◌, ap, ◌∙◌, sym, ◌++◌}, lemmas.List.{at_drop_more, at_drop_all}}
use Rattle.mdp_text.specs.Parts.{part_text, parts_text}
use Rattle.mdp_text.proofs.Fronts.{keeps_more, keeps-split, piece_more, pieces_end}
use Rattle.mdp_text.proofs.parts.append_parts.Goals as goal

pub returns-in_err-push_part-clause-front : goal.returns-in_err-push_part-clause-front
returns-in_err-push_part-clause-front c = keeps_more _ _ _ c.loop-part.invariant.front c.in_err-push_part.ensures.front

pub loop-part-preserved : goal.loop-part-preserved
loop-part-preserved c =
    let parts = c.args.parts.now in
    let part = c.part-item.result in
    let behind = parts_text (drop (c.loop-part.part-index + 1) parts) in
    let next = at_drop_more parts_text parts c.loop-part.part-index part c.loop-part-test.true in
    record {
      rest = piece_more _ _ (part_text part) behind _ _ c.loop-part.invariant.rest (next ∙ ap (λ x. part_text x ++ behind) (sym c.part-item.is)) c.in_ok-push_part.ensures.text;
      front = keeps_more _ _ _ c.loop-part.invariant.front (keeps-split _ _ _ c.in_ok-push_part.ensures.text);
    }

pub returns-clause-text : goal.returns-clause-text
returns-clause-text c = pieces_end _ _ _ c.loop-part.invariant.rest (at_drop_all parts_text c.args.parts.now c.loop-part.part-index c.loop-part-test.false)

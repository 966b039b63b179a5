use Rattle.std.proofs.{Common.{◌≡◌, suc, ◌+◌, ◌∷◌, ◌++◌, drop, ap, ◌∙◌, sym, arith}, lemmas.List.{at_drop_more, at_drop_all}}
use Rattle.mdp_text.specs.Spelling.{line, value_text, value_lines}
use Rattle.mdp_text.proofs.Fronts.{keeps_more, piece_more, pieces_end}
use Rattle.mdp_text.proofs.push.append_values.Goals as goal

pub returns-in_err-push_numbered-clause-front : goal.returns-in_err-push_numbered-clause-front
returns-in_err-push_numbered-clause-front c = keeps_more _ _ _ c.loop-s.invariant.front c.push_numbered.ensures.front

pub loop-s-preserved : goal.loop-s-preserved
loop-s-preserved c =
    let s = c.loop-s.s in
    let value = c.index-values-s.result in
    let behind = drop (s + 1) c.args.values.now in
    let first = at_drop_more (value_lines s) c.args.values.now s value c.loop-s-test.true ∙ ap (λ x. value_lines s (x ∷ behind)) (sym c.index-values-s.is) in
    let one : suc s ≡ s + 1 = omega arith in
    let next = first ∙ ap (λ n. line (value_text s value) ++ value_lines n behind) one in
    record {
      rest = piece_more _ _ (line (value_text s value)) (value_lines (s + 1) behind) _ _ c.loop-s.invariant.rest next c.in_ok-push_numbered.ensures.text;
      front = keeps_more _ _ _ c.loop-s.invariant.front c.push_numbered.ensures.front;
    }

pub returns-clause-text : goal.returns-clause-text
returns-clause-text c = pieces_end _ _ _ c.loop-s.invariant.rest (at_drop_all (value_lines c.loop-s.s) c.args.values.now c.loop-s.s c.loop-s-test.false)

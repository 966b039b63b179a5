use Rattle.std.proofs.Common.{OnOk, subst, suc, ◌+◌, ◌≡◌, ◌++◌, ap, sym, ◌∙◌, arith, List, ℕ}
use Rattle.mdp_text.proofs.Fronts.{keeps_more}
use Rattle.mdp_cert.proofs.OneByOne.{more-written, all-written}
use Rattle.mdp_cert.proofs.listed.push_listed.Goals as goal

pub loop-place-preserved : goal.loop-place-preserved
loop-place-preserved g c =
    let one : c.loop-place.place + 1 ≡ suc c.loop-place.place = omega arith in
    rw one (
      more-written g.L.Item.Line.listed c.loop-place.out.items _ _ (g.L.Lines.lines c.args.lines.now) c.loop-place.place c.line.result (omega (arith, c.requires)) c.line.ensures
          c.loop-place.invariant.0 c.in_ok-push_line.ensures.text,
      keeps_more _ _ _ c.loop-place.invariant.1 c.in_ok-push_line.ensures.front,
    )

pub returns-clause-text : goal.returns-clause-text
returns-clause-text g c =
    let all = all-written g.L.Item.Line.listed (g.L.Lines.lines c.args.lines.now) c.loop-place.place (omega (arith, c.requires)) in
    subst (λ (t : List ℕ). OnOk c.push_end.result (c.push_end.new.out.items ≡ t)) (ap (λ (t : List ℕ). c.loop-place.out.items ++ t) (sym all) ∙ c.loop-place.invariant.0)
    c.push_end.ensures.text

pub returns-clause-front : goal.returns-clause-front
returns-clause-front g c = keeps_more _ _ _ c.loop-place.invariant.1 c.push_end.ensures.front

pub returns-in_err-push_line-clause-front : goal.returns-in_err-push_line-clause-front
returns-in_err-push_line-clause-front g c = keeps_more _ _ _ c.loop-place.invariant.1 c.push_line.ensures.front

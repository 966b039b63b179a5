use Rattle.std.proofs.{Common.{suc, ◌+◌, length, None, Some, Ok, ap, sym, ◌∙◌, arith}, lemmas.Result.{err_from_is_err_and}}
use Rattle.mdp_text.specs.Lines.{place}
use Rattle.mdp_cert.specs.Reading.{listed_from}
use Rattle.mdp_text.proofs.Feeds.{line-found}
use Rattle.mdp_cert.proofs.OneByOne.{next-shorter, onto, first-line, next-line, last-line, no-line, not-said}
use Rattle.mdp_cert.proofs.listed.listed_to_end.Goals as goal

pub loop-lines-init : goal.loop-lines-init
loop-lines-init g c = (
  omega arith,
  ap (λ xs. onto g.L.Line.listed c.args.states xs (listed_from (suc (length c.args.bytes.now)) g.L.Line.listed c.args.states None (place c.args.line c.args.bytes.now))) c.new-lines.ensures.items
      ∙ first-line g.L.Line.listed c.args.states (place c.args.line c.args.bytes.now),
)

pub returns-in_err-text : goal.returns-in_err-text
returns-in_err-text g c =
    let p = err_from_is_err_and c.from_residual.result c.from_residual.ensures.1 in
    rw (p.1, p.2) (sym c.loop-lines.invariant.1 ∙ no-line g.L.Line.listed c.args.states c.loop-lines.lines.items c.loop-lines.before
    (place c.loop-lines.next c.loop-lines.rest.now) _ c.in_err-text.ensures)

pub returns-in_err-said : goal.returns-in_err-said
returns-in_err-said g c =
    let p = err_from_is_err_and c.from_residual-in_err-said.result c.from_residual-in_err-said.ensures.1 in
    rw (p.1, p.2) (sym c.loop-lines.invariant.1 ∙ not-said g.L.Line.listed c.args.states c.loop-lines.lines.items c.loop-lines.before
    (place c.loop-lines.next c.loop-lines.rest.now) _ _ _ c.in_ok-text.ensures (sym c.in_err-said.ensures))

pub returns-in_default : goal.returns-in_default
returns-in_default g c =
    sym c.loop-lines.invariant.1
    ∙ last-line g.L.Line.listed c.args.states c.loop-lines.lines.items c.loop-lines.before (place c.loop-lines.next c.loop-lines.rest.now) _ _ c.in_ok-text.ensures
    (sym (c.in_ok-said.ensures) ∙ ap (λ o. Ok o) c.in_default.is)

pub loop-lines-smaller : goal.loop-lines-smaller
loop-lines-smaller g c = next-shorter (place c.loop-lines.next c.loop-lines.rest.now) _ _ (line-found _ _ _ c.in_ok-text.ensures)

pub loop-lines-preserved : goal.loop-lines-preserved
loop-lines-preserved g c =
    let less = next-shorter (place c.loop-lines.next c.loop-lines.rest.now) _ _ (line-found _ _ _ c.in_ok-text.ensures) in (
      omega (arith, less, c.loop-lines.invariant.0),
      ap (λ xs. onto g.L.Line.listed c.args.states xs (listed_from (suc (length c.in_ok-text.behind.now)) g.L.Line.listed c.args.states (Some c.in-Some.said)
          (place (c.loop-lines.next + 1) c.in_ok-text.behind.now))) c.in_ok-push.ensures.items
          ∙ sym (next-line g.L.Line.listed c.args.states c.loop-lines.lines.items c.loop-lines.before (place c.loop-lines.next c.loop-lines.rest.now) _ _ c.in-Some.said
          c.in_ok-text.ensures (sym (c.in_ok-said.ensures) ∙ ap (λ o. Ok o) c.in-Some.is))
          ∙ c.loop-lines.invariant.1,
    )

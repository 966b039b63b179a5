use Rattle.std.proofs.{Common.{◌+◌, ◌-◌, Some, refl, ap, sym, ◌∙◌, arith}, lemmas.Result.{err_from_is_err_and}}
use Rattle.mdp_text.specs.Lines.{place}
use Rattle.mdp_cert.specs.Reading.{runs_from}
use Rattle.mdp_cert.proofs.Steps.{onto, first-line, next-run, no-line, no-run, last-line}
use Rattle.mdp_cert.proofs.state_lines.entries_from.Goals as goal

pub loop-due-init : goal.loop-due-init
loop-due-init g c = (
  omega arith,
  omega arith,
  ap (λ xs. onto c.args.version g.E.Entry.columns c.args.states xs
      (runs_from (c.args.states - 0) c.args.version g.E.Entry.columns c.args.states 0 _ (place c.args.line c.args.bytes.now))) c.requires.empty
      ∙ first-line c.args.version g.E.Entry.columns c.args.states (place c.args.line c.args.bytes.now),
)

pub returns-in_err-text-clause-said : goal.returns-in_err-text-clause-said
returns-in_err-text-clause-said g c =
    let p = err_from_is_err_and c.from_residual.result c.from_residual.ensures.1 in
    rw (p.1, p.2) (sym c.loop-due.invariant.2 ∙ no-line c.args.version g.E.Entry.columns c.args.states c.loop-due.entries.items c.loop-due.due c.loop-due.before
    (place c.loop-due.next c.loop-due.rest.now) _ (omega arith) c.in_err-text.ensures)

pub returns-in_err-entry-clause-said : goal.returns-in_err-entry-clause-said
returns-in_err-entry-clause-said g c =
    let p = err_from_is_err_and c.from_residual-in_err-entry.result c.from_residual-in_err-entry.ensures.1 in
    rw (p.1, p.2) (sym c.loop-due.invariant.2 ∙ no-run c.args.version g.E.Entry.columns c.args.states c.loop-due.entries.items c.loop-due.due c.loop-due.before
    (place c.loop-due.next c.loop-due.rest.now) _ _ _ (omega arith) c.in_ok-text.ensures c.in_err-entry.ensures.said)

pub loop-due-preserved : goal.loop-due-preserved
loop-due-preserved g c = (
  omega (arith, c.in_ok-entry.ensures.inside),
  omega arith,
  ap (λ xs. onto c.args.version g.E.Entry.columns c.args.states xs
      (runs_from (c.args.states - (c.loop-due.due + (c.in_ok-entry.more + 1))) c.args.version g.E.Entry.columns c.args.states (c.loop-due.due + (c.in_ok-entry.more + 1))
      (Some c.in_ok-entry.entry) (place (c.loop-due.next + 1) c.in_ok-text.behind.now))) c.in_ok-push_times.ensures
      ∙ sym (next-run c.args.version g.E.Entry.columns c.args.states c.loop-due.entries.items c.loop-due.due (c.loop-due.due + (c.in_ok-entry.more + 1)) c.loop-due.before
      (place c.loop-due.next c.loop-due.rest.now) _ _ c.in_ok-entry.entry c.in_ok-entry.more (omega arith) c.in_ok-text.ensures c.in_ok-entry.ensures.said refl)
      ∙ c.loop-due.invariant.2,
)

pub returns-clause-said : goal.returns-clause-said
returns-clause-said g c =
    sym c.loop-due.invariant.2
    ∙ last-line c.args.version g.E.Entry.columns c.args.states c.loop-due.entries.items c.loop-due.due c.loop-due.before (place c.loop-due.next c.loop-due.rest.now) (omega arith)

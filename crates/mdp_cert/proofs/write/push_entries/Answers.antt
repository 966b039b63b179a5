use Rattle.std.proofs.{Common.{◌++◌, ap, sym, ◌∙◌, arith, List, ℕ}, lemmas.List.{append-nil}}
use Rattle.mdp_text.proofs.Fronts.{keeps_more}
use Rattle.mdp_cert.proofs.Growth.{lines-written, last-inside, written-all}
use Rattle.mdp_cert.proofs.write.push_entries.Goals as goal

pub overflow_add-first : goal.overflow_add-first
overflow_add-first g c =
    let inside =
    last-inside g.L.Item.Entry.columns c.args.version (g.L.Lists.entries c.args.entries.now) c.loop-first.first c.line_end-last.result (omega (arith, c.requires)) c.line_end-last.ensures in
    omega (arith, inside, c.requires)

pub loop-first-preserved : goal.loop-first-preserved
loop-first-preserved g c =
    let inside =
    last-inside g.L.Item.Entry.columns c.args.version (g.L.Lists.entries c.args.entries.now) c.loop-first.first c.line_end-last.result (omega (arith, c.requires)) c.line_end-last.ensures in (
      omega (arith, inside, c.requires),
      lines-written g.L.Item.Entry.columns c.args.version c.loop-first.out.items _ _ (g.L.Lists.entries c.args.entries.now) c.loop-first.first c.line_end-last.result
          c.entry.result (omega (arith, c.requires)) c.entry.ensures c.line_end-last.ensures
          c.loop-first.invariant.1 c.in_ok-push_run.ensures.text,
      keeps_more _ _ _ c.loop-first.invariant.2 c.in_ok-push_run.ensures.front,
    )

pub returns : goal.returns
returns g c =
    let none = written-all g.L.Item.Entry.columns c.args.version (g.L.Lists.entries c.args.entries.now) c.loop-first.first (omega (arith, c.requires)) in
    record { text = sym (ap (λ (t : List ℕ). c.loop-first.out.items ++ t) none ∙ append-nil c.loop-first.out.items) ∙ c.loop-first.invariant.1; front = c.loop-first.invariant.2 }

pub returns-in_err-push_run-clause-front : goal.returns-in_err-push_run-clause-front
returns-in_err-push_run-clause-front g c = keeps_more _ _ _ c.loop-first.invariant.2 c.push_run.ensures.front

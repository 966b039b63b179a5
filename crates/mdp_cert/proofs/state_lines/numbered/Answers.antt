use Rattle.std.proofs.{Common.{◌+◌, sym, ◌∙◌}, lemmas.Result.{err_from_is_err_and}}
use Rattle.mdp_cert.proofs.WordByWord.{other-count}
use Rattle.mdp_cert.proofs.state_lines.numbered.Goals as goal

pub returns-in_err-refuse_if-clause-words : goal.returns-in_err-refuse_if-clause-words
returns-in_err-refuse_if-clause-words g c =
    let p = err_from_is_err_and c.from_residual.result c.from_residual.ensures.1 in
    rw (p.1, p.2) (other-count c.args.due.now (c.args.numbers + g.E.Entry.columns.width) c.args.line c.args.text.now _ _ _ c.word_count-count.ensures.count c.word_count-count.ensures.some c.is_count.ensures.count (sym c.refuse_if.ensures ∙ c.in_err-refuse_if.was))

use Rattle.std.proofs.{Common.{◌+◌, ◌-◌, sym, ◌∙◌, ap, arith}, lemmas.Result.{err_from_is_err_and}}
use Rattle.mdp_text.specs.Lines.{place}
use Rattle.mdp_policy.specs.Text.{choices_from}
use Rattle.mdp_policy.proofs.Reading.{onto, first-choice, next-choice, no-line, no-choice, last-choice}
use Rattle.mdp_policy.proofs.read.choices_from.Goals as goal

pub loop-s-init : goal.loop-s-init
loop-s-init c = record {
  lines = omega arith;
  said = ap (λ xs. onto xs (choices_from (c.args.states - 0) 0 (place c.args.line c.args.bytes.now))) c.new-choices.ensures.items ∙ first-choice c.args.states (place c.args.line c.args.bytes.now);
}

pub returns-in_err-text-clause-said : goal.returns-in_err-text-clause-said
returns-in_err-text-clause-said c =
    let p = err_from_is_err_and c.from_residual.result c.from_residual.ensures.1 in
    rw (p.1, p.2) (sym c.loop-s.invariant.said ∙ no-line c.loop-s.choices.items c.args.states c.loop-s.s (place c.loop-s.next c.loop-s.rest.now) _ (omega arith) c.in_err-text.ensures)

pub returns-in_err-choice-clause-said : goal.returns-in_err-choice-clause-said
returns-in_err-choice-clause-said c =
    let p = err_from_is_err_and c.from_residual-in_err-choice.result c.from_residual-in_err-choice.ensures.1 in
    rw (p.1, p.2) (sym c.loop-s.invariant.said ∙ no-choice c.loop-s.choices.items c.args.states c.loop-s.s (place c.loop-s.next c.loop-s.rest.now) _ _ _ (omega arith) c.in_ok-text.ensures
    (sym c.choose_at.ensures ∙ c.in_err-choice.was))

pub loop-s-preserved : goal.loop-s-preserved
loop-s-preserved c = record {
  lines = omega arith;
  said =
      ap (λ xs. onto xs (choices_from (c.args.states - (c.loop-s.s + 1)) (c.loop-s.s + 1) (place (c.loop-s.next + 1) c.in_ok-text.behind.now))) (c.in_ok-push.ensures {u = tt}).items
      ∙ sym (next-choice c.loop-s.choices.items c.args.states c.loop-s.s (c.loop-s.s + 1) (place c.loop-s.next c.loop-s.rest.now) (place (c.loop-s.next + 1) c.in_ok-text.behind.now) _
      c.in_ok-choice.choice
      (omega arith) (omega arith) c.in_ok-text.ensures (sym c.choose_at.ensures ∙ c.in_ok-choice.was {u = tt}))
      ∙ c.loop-s.invariant.said;
}

pub returns-clause-said : goal.returns-clause-said
returns-clause-said c =
    sym c.loop-s.invariant.said ∙ last-choice c.loop-s.choices.items c.args.states c.loop-s.s (place c.loop-s.next c.loop-s.rest.now) (omega arith)

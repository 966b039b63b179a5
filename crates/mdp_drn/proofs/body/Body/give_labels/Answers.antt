use Rattle.std.proofs.{Common.{◌∙◌, subst, Result}, lemmas.Result.{err_from_is_err_and}}
use Rattle.mdp_rows.specs.Draft.{Draft}
use Rattle.mdp_drn.specs.{Outcome.{Refusal}, Body.{with_labels}, BodyView.{view}, Feeding.{Fails}}
use Rattle.mdp_drn.proofs.LinesRead.LabelsOneByOne.{names, name-at, one_given, one_refused, judged-same, judged-ok}
use Rattle.mdp_drn.proofs.body.Body.give_labels.Goals as goal

pub give_label-requires-clause-name : goal.give_label-requires-clause-name
give_label-requires-clause-name c = name-at c.args.labels.now c.loop-label.label-index _ c.loop-label-test.true c.requires.names

pub returns-in_err-give_label-clause-given : goal.returns-in_err-give_label-clause-given
returns-in_err-give_label-clause-given c =
    let p = err_from_is_err_and c.from_residual.result c.from_residual.ensures.1 in
    let due = with_labels (names c.args.labels.now) c.args.self.now.builder in
    rw (p.1, p.2) (subst (λ (said : Result Draft Refusal). Fails c.in_err-give_label.field-0.0 said)
    (judged-same (view c.loop-label.self) (view c.args.self.now) c.args.line due c.loop-label.invariant.beside.state_line c.loop-label.invariant.beside.action_line)
    (one_refused c.args.labels.now c.loop-label.label-index _ c.loop-label-test.true due c.loop-label.self.builder
    (view c.loop-label.self) c.args.line c.in_err-give_label.field-0.0 c.loop-label.invariant.given c.in_err-give_label.ensures.given))

pub loop-label-preserved : goal.loop-label-preserved
loop-label-preserved c =
    let b = c.in_ok-give_label.ensures.beside in
    let was = c.loop-label.invariant.beside in
    record {
      given = one_given c.args.labels.now c.loop-label.label-index _ c.loop-label-test.true
          (with_labels (names c.args.labels.now) c.args.self.now.builder) c.loop-label.self.builder c.give_label.new.self.builder c.loop-label.invariant.given
          (judged-ok (view c.loop-label.self) c.args.line _ c.give_label.new.self.builder c.in_ok-give_label.ensures.given);
      beside = record {
        announced = b.announced ∙ was.announced;
        models = b.models ∙ was.models;
        is_chain = b.is_chain
            ∙ was.is_chain;
        state_line = b.state_line ∙ was.state_line;
        action_line = b.action_line ∙ was.action_line;
      };
      body = c.in_ok-give_label.ensures.body;
      state = c.in_ok-give_label.ensures.state;
    }

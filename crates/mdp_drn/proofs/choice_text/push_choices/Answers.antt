use Rattle.std.proofs.Common.{arith}
use Rattle.mdp_spec.specs.Mdp.{choices_at}
use Rattle.mdp_drn.proofs.{TextWritten.Appending.{appending-more, appending-done, front-more}, TextWritten.TextsLeft.{choices-more, choices-end}}
use Rattle.mdp_drn.proofs.choice_text.push_choices.Goals as goal

pub loop-c-preserved : goal.loop-c-preserved
loop-c-preserved c =
    appending-more _ _ _ _ _ _ _ c.loop-c.invariant (choices-more (choices_at c.args.model.now c.args.s) c.loop-c.c (omega arith)) c.in_ok-push_choice.ensures.text c.push_choice.ensures.front

pub returns-clause-text : goal.returns-clause-text
returns-clause-text c = appending-done _ _ _ _ c.loop-c.invariant (choices-end (choices_at c.args.model.now c.args.s) c.loop-c.c (omega arith))

pub returns-in_err-push_choice-clause-front : goal.returns-in_err-push_choice-clause-front
returns-in_err-push_choice-clause-front c = front-more _ _ _ c.loop-c.invariant.front c.push_choice.ensures.front

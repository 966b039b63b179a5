use Rattle.std.proofs.Common.{arith}
use Rattle.mdp_drn.proofs.{TextWritten.Appending.{appending-more, appending-done, front-more}, TextWritten.TextsLeft.{states-more, states-end}}
use Rattle.mdp_drn.proofs.state_text.push_states.Goals as goal

pub loop-s-preserved : goal.loop-s-preserved
loop-s-preserved c =
    appending-more _ _ _ _ _ _ _ c.loop-s.invariant (states-more c.args.model.now c.loop-s.s (omega arith)) c.in_ok-push_state.ensures.text c.push_state.ensures.front

pub returns-clause-text : goal.returns-clause-text
returns-clause-text c = appending-done _ _ _ _ c.loop-s.invariant (states-end c.args.model.now c.loop-s.s (omega arith))

pub returns-in_err-push_state-clause-front : goal.returns-in_err-push_state-clause-front
returns-in_err-push_state-clause-front c = front-more _ _ _ c.loop-s.invariant.front c.push_state.ensures.front

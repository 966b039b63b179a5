use Rattle.std.proofs.Common.{arith, codes}
use Rattle.mdp_drn.specs.Pieces.{zeros_of}
use Rattle.mdp_drn.proofs.TextWritten.Appending.{appending-done, appending-more, appending-start, front-more}
use Rattle.mdp_drn.proofs.TextWritten.TextsLeft.{separated-all, zeros-end, zeros-more}
use Rattle.mdp_drn.proofs.state_text.push_zeros.Goals as goal

pub loop-m-init : goal.loop-m-init
loop-m-init c = rw (← separated-all (codes ", ") (zeros_of c.args.model.now)) (appending-start _ _)

pub loop-m-preserved : goal.loop-m-preserved
loop-m-preserved c =
    appending-more _ _ _ _ _ _ _ c.loop-m.invariant (zeros-more c.args.model.now c.loop-m.m (omega arith)) c.in_ok-push_zero.ensures.text c.push_zero.ensures.front

pub returns-clause-text : goal.returns-clause-text
returns-clause-text c =
    appending-done _ _ _ _ c.loop-m.invariant (zeros-end c.args.model.now c.loop-m.m (omega arith))

pub returns-in_err-push_zero-clause-front : goal.returns-in_err-push_zero-clause-front
returns-in_err-push_zero-clause-front c = front-more _ _ _ c.loop-m.invariant.front c.push_zero.ensures.front

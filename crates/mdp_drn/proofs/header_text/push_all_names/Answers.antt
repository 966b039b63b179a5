use Rattle.std.proofs.Common.{[], ◌∷◌, arith}
use Rattle.mdp_drn.proofs.TextWritten.Appending.{appending-start, appending-more, appending-done, front-more}
use Rattle.mdp_drn.proofs.TextWritten.TextsLeft.{separated-all, separated-end, separated-more}
use Rattle.mdp_drn.proofs.header_text.push_all_names.Goals as goal

pub loop-m-init : goal.loop-m-init
loop-m-init c = rw (← separated-all (32 ∷ []) c.args.model.now.names) (appending-start _ _)

pub loop-m-preserved : goal.loop-m-preserved
loop-m-preserved c =
    appending-more _ _ _ _ _ _ _ c.loop-m.invariant (separated-more (32 ∷ []) c.args.model.now.names c.loop-m.m [] (omega arith)) c.in_ok-push_name.ensures.text c.push_name.ensures.front

pub returns-clause-text : goal.returns-clause-text
returns-clause-text c = appending-done _ _ _ _ c.loop-m.invariant (separated-end (32 ∷ []) c.args.model.now.names c.loop-m.m (omega arith))

pub returns-in_err-push_name-clause-front : goal.returns-in_err-push_name-clause-front
returns-in_err-push_name-clause-front c = front-more _ _ _ c.loop-m.invariant.front c.push_name.ensures.front

use Rattle.std.proofs.{Common.{arith}, lemmas.Grind.{common_steps}}
use Rattle.mdp_drn.proofs.{TextWritten.Appending.{appending-done, front-more}, TextWritten.TextsLeft.{row-end}}
use Rattle.mdp_drn.proofs.choice_text.push_row.Goals as goal

pub returns-clause-text : goal.returns-clause-text
returns-clause-text c = appending-done _ _ _ _ c.loop-i.invariant (row-end c.args.row.now.targets.now c.args.row.now.probs.now c.loop-i.i c.loop-i-test.false)

pub returns-in_err-push_entry-clause-front : goal.returns-in_err-push_entry-clause-front
returns-in_err-push_entry-clause-front c = front-more _ _ _ c.loop-i.invariant.front c.push_entry.ensures.front

pub loop-i-preserved : goal.loop-i-preserved
loop-i-preserved c = grind (arith, common_steps)

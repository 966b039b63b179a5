use Rattle.std.proofs.{Common.{arith}, lemmas.Grind.{common_steps}}
use Rattle.mdp_drn.proofs.feed.Feed.push.Goals as goal

pub lines-preserved : goal.lines-preserved
lines-preserved c = grind (arith, common_steps)

pub returns-clause-repeats : goal.returns-clause-repeats
returns-clause-repeats c = grind (arith, common_steps)

pub returns-clause-stays : goal.returns-clause-stays
returns-clause-stays c = grind (arith, common_steps)

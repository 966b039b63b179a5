use Rattle.std.proofs.{Common.{arith}, lemmas.Grind.{common_steps}}
use Rattle.mdp_drn.proofs.push.push_separator.Goals as goal

pub returns-clause-front : goal.returns-clause-front
returns-clause-front c = grind (arith, common_steps)

pub returns-then-place-eq0-clause-front : goal.returns-then-place-eq0-clause-front
returns-then-place-eq0-clause-front c = grind (arith, common_steps)

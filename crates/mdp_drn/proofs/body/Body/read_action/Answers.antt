use Rattle.std.proofs.{Common.{arith}, lemmas.Grind.{common_steps}}
use Rattle.mdp_drn.specs.Body.{action_read}
use Rattle.mdp_drn.proofs.body.Body.read_action.Goals as goal

pub returns-then-self-2-clause-read : goal.returns-then-self-2-clause-read
unfolding action_read
returns-then-self-2-clause-read c = grind (arith, common_steps)

pub returns-clause-read : goal.returns-clause-read
unfolding action_read
returns-clause-read c = grind (arith, common_steps)

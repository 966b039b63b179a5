use Rattle.std.proofs.{Common.{arith}, lemmas.Grind.{common_steps}}
use Rattle.mdp_drn.proofs.body.Body.take_action.Goals as goal

pub returns-clause-taken : goal.returns-clause-taken
returns-clause-taken c = grind (arith, common_steps)

pub returns-in_err-open_choice-clause-taken : goal.returns-in_err-open_choice-clause-taken
returns-in_err-open_choice-clause-taken c = grind (arith, common_steps)

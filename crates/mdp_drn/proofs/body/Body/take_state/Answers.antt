use Rattle.std.proofs.{Common.{arith}, lemmas.Grind.{common_steps}}
use Rattle.mdp_drn.proofs.body.Body.take_state.Goals as goal

pub returns-in_err-give_labels-clause-taken : goal.returns-in_err-give_labels-clause-taken
returns-in_err-give_labels-clause-taken c = grind (arith, common_steps)

pub returns-clause-taken : goal.returns-clause-taken
returns-clause-taken c = grind (arith, common_steps)

pub returns-in_err-open_state-clause-taken : goal.returns-in_err-open_state-clause-taken
returns-in_err-open_state-clause-taken c = grind (arith, common_steps)

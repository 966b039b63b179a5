use Rattle.std.proofs.{Common.{arith}, lemmas.Grind.{common_steps}}
use Rattle.mdp_drn.specs.Body.{entry_read}
use Rattle.mdp_drn.proofs.body.Body.read_entry.Goals as goal

pub returns-in-Err-read-clause-read : goal.returns-in-Err-read-clause-read
unfolding entry_read
returns-in-Err-read-clause-read c = grind (arith, common_steps)

pub returns-in-Ok-read-clause-read : goal.returns-in-Ok-read-clause-read
unfolding entry_read
returns-in-Ok-read-clause-read c = grind (arith, common_steps)

pub returns-then-has_target-clause-read : goal.returns-then-has_target-clause-read
unfolding entry_read
returns-then-has_target-clause-read c = grind (arith, common_steps)

pub returns-in-Err-clause-read : goal.returns-in-Err-clause-read
unfolding entry_read
returns-in-Err-clause-read c = grind (arith, common_steps)

pub returns-then-target-from-clause-read : goal.returns-then-target-from-clause-read
unfolding entry_read
returns-then-target-from-clause-read c = grind (arith, common_steps)

pub returns-then-not-is_choice_open-clause-read : goal.returns-then-not-is_choice_open-clause-read
unfolding entry_read
returns-then-not-is_choice_open-clause-read c = grind (arith, common_steps)

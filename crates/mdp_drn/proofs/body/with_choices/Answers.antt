use Rattle.std.proofs.{Common.{arith}, lemmas.Grind.{common_steps}}
use Rattle.mdp_drn.proofs.body.with_choices.Goals as goal

pub returns-else-has_choices : goal.returns-else-has_choices
returns-else-has_choices c = grind (arith, common_steps)

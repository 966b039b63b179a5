use Rattle.std.proofs.{Common.{arith}, lemmas.Grind.{common_steps}}
use Rattle.mdp_drn.proofs.brackets.first_bracket.Goals as goal

pub returns-in-len1-up : goal.returns-in-len1-up
returns-in-len1-up c = grind (arith, common_steps)

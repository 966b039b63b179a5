use Rattle.std.proofs.{Common.{arith}, lemmas.Grind.{common_steps}}
use Rattle.mdp_text.specs.Heads.{start_at}
use Rattle.mdp_text.proofs.heads.start_at.Goals as goal

pub returns : goal.returns
unfolding start_at
returns c = grind (arith, common_steps)

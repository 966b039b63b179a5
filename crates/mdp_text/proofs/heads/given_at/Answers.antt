use Rattle.std.proofs.{Common.{arith}, lemmas.Grind.{common_steps}}
use Rattle.mdp_text.specs.Heads.{given_at}
use Rattle.mdp_text.proofs.heads.given_at.Goals as goal

pub returns-in_err-refuse_if : goal.returns-in_err-refuse_if
unfolding given_at
returns-in_err-refuse_if c = grind (arith, common_steps)

pub returns : goal.returns
unfolding given_at
returns c = grind (arith, common_steps)

use Rattle.std.proofs.{Common.{arith}, lemmas.Grind.{common_steps}}
use Rattle.mdp_drn.specs.Header.{names_in}
use Rattle.mdp_drn.proofs.names.read_names.Goals as goal

pub returns : goal.returns
unfolding names_in
returns c = grind (arith, common_steps)

pub returns-then-len-gt-MAX_NAMES : goal.returns-then-len-gt-MAX_NAMES
unfolding names_in
returns-then-len-gt-MAX_NAMES c = grind (arith, common_steps)

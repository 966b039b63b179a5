use Rattle.std.proofs.{Common.{arith}, lemmas.Grind.{common_steps}}
use Rattle.mdp_drn.specs.Header.{entry_line}
use Rattle.mdp_drn.proofs.header.Header.take_entry.Goals as goal

pub returns-then-starts_with : goal.returns-then-starts_with
unfolding entry_line
returns-then-starts_with c = grind (arith, common_steps)

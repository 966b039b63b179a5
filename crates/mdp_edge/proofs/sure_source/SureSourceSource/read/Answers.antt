use Rattle.std.proofs.{Common.{arith}, lemmas.Grind.{common_steps}}
use Rattle.mdp_edge.proofs.sure_source.SureSourceSource.read.Goals as goal

pub returns-clause-count : goal.returns-clause-count
returns-clause-count c = grind (arith, common_steps)

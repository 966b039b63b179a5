use Rattle.std.proofs.{Common.{arith}, lemmas.Grind.{common_steps}}
use Rattle.mdp_edge.proofs.list_sink.ListSinkSink.write.Goals as goal

pub returns-clause-after : goal.returns-clause-after
returns-clause-after c = grind (arith, common_steps)

pub returns-clause-fails : goal.returns-clause-fails
returns-clause-fails c = grind (arith, common_steps)

use Rattle.mdp_graph.proofs.{Missing.{trees_miss}, RoundLaws.{rounds_fall, zero_is_sure}}
use Rattle.mdp_graph.proofs.laws.rounds_law.Goals as goal

pub returns-clause-fall : goal.returns-clause-fall
returns-clause-fall c = rounds_fall

pub returns-clause-zero : goal.returns-clause-zero
returns-clause-zero c = zero_is_sure

pub returns-clause-misses : goal.returns-clause-misses
returns-clause-misses c = trees_miss

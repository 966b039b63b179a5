use Rattle.mdp_graph.proofs.PolicyLaws.{rows_fall, rows_stay}
use Rattle.mdp_graph.proofs.laws.along_law.Goals as goal

pub returns-clause-falls : goal.returns-clause-falls
returns-clause-falls c = rows_fall

pub returns-clause-rest : goal.returns-clause-rest
returns-clause-rest c = rows_stay

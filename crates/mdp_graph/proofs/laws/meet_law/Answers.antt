use Rattle.mdp_graph.proofs.PolicyLaws.{each_policy_meets, rest_avoids}
use Rattle.mdp_graph.proofs.laws.meet_law.Goals as goal

pub returns-clause-meets : goal.returns-clause-meets
returns-clause-meets c = each_policy_meets

pub returns-clause-rest : goal.returns-clause-rest
returns-clause-rest c = rest_avoids

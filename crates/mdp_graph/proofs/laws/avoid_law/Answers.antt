use Rattle.mdp_graph.proofs.{Certainty.{choices_miss}, PassLaws.{policy_avoids}, PolicyMeets.{rest_meets}}
use Rattle.mdp_graph.proofs.laws.avoid_law.Goals as goal

pub returns-clause-avoids : goal.returns-clause-avoids
returns-clause-avoids c = policy_avoids

pub returns-clause-rest : goal.returns-clause-rest
returns-clause-rest c = rest_meets

pub returns-clause-misses : goal.returns-clause-misses
returns-clause-misses c = choices_miss

use Rattle.mdp_graph.proofs.PolicyLaws.{choices_reach, rest_stays}
use Rattle.mdp_graph.proofs.laws.reach_law.Goals as goal

pub returns-clause-reaches : goal.returns-clause-reaches
returns-clause-reaches c = choices_reach

pub returns-clause-rest : goal.returns-clause-rest
returns-clause-rest c = rest_stays

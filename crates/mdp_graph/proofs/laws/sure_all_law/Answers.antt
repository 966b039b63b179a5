use Rattle.mdp_graph.proofs.{Certainty.{trees_arrive}, Missing.{joined_misses}, PassLaws.{stays_sure}}
use Rattle.mdp_graph.proofs.laws.sure_all_law.Goals as goal

pub returns-clause-stays : goal.returns-clause-stays
returns-clause-stays c = stays_sure

pub returns-clause-arrives : goal.returns-clause-arrives
returns-clause-arrives c = trees_arrive

pub returns-clause-misses : goal.returns-clause-misses
returns-clause-misses c = joined_misses

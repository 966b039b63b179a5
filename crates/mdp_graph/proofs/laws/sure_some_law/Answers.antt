use Rattle.mdp_graph.proofs.{Certainty.{choices_arrive}, PolicyLaws.{choices_are_sure, sure_are_marked}}
use Rattle.mdp_graph.proofs.laws.sure_some_law.Goals as goal

pub returns-clause-policy : goal.returns-clause-policy
returns-clause-policy c = choices_are_sure

pub returns-clause-arrives : goal.returns-clause-arrives
returns-clause-arrives c = choices_arrive

pub returns-clause-greatest : goal.returns-clause-greatest
returns-clause-greatest c = sure_are_marked

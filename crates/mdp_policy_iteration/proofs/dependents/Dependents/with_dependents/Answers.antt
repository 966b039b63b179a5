use Rattle.mdp_policy_iteration.proofs.Searching.{dependents_found}
use Rattle.mdp_policy_iteration.proofs.dependents.Dependents.with_dependents.Goals as goal

pub returns-clause-found : goal.returns-clause-found
returns-clause-found c = dependents_found _ _ _ _ _ _ _ _ _ c.new-found.ensures.items c.in_ok-add_each.ensures c.in_ok-add_dependents.ensures c.finish.ensures.same

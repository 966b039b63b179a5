use Rattle.mdp_policy_iteration.proofs.Searching.{coming_found}
use Rattle.mdp_policy_iteration.proofs.dependents.Dependents.coming_to.Goals as goal

pub returns-clause-found : goal.returns-clause-found
returns-clause-found c = coming_found _ _ _ _ _ _ _ _ _ c.new-found.ensures.items c.in_ok-add_each.ensures c.in_ok-add_coming.ensures.coming c.finish.ensures.same

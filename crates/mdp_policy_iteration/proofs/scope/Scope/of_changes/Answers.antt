use Rattle.std.proofs.Common.{ℕ, ◌<◌, List, sym, subst, ◌∙◌, length}
use Rattle.std.specs.List.{All}
use Rattle.mdp_policy_iteration.specs.Problem.{count}
use Rattle.mdp_policy_iteration.specs.Dependents.{AreComingTo, AreWithDependents}
use Rattle.mdp_policy_iteration.proofs.Scopes.{dependents-below, changed-below, scope-is}
use Rattle.mdp_policy_iteration.proofs.scope.Scope.of_changes.Goals as goal

pub coming_to-requires-clause-dependents : goal.coming_to-requires-clause-dependents
coming_to-requires-clause-dependents g c = dependents-below (g.P.ShortestPath.problem c.args.problem.now) c.args.dependents.now c.requires.dependents

pub coming_to-requires-clause-changed : goal.coming_to-requires-clause-changed
coming_to-requires-clause-changed g c =
    let p = g.P.ShortestPath.problem c.args.problem.now in
    let is = c.deref.ensures.value ∙ c.in_ok-changed.ensures {u = tt} in
    subst (λ n. All (λ s. s < n) c.deref.result.now) (sym c.requires.dependents.each_node)
    (subst (λ (xs : List ℕ). All (λ s. s < count p) xs) (sym is) (changed-below p c.args.changes.now c.requires.changes))

pub with_dependents-requires-clause-dependents : goal.with_dependents-requires-clause-dependents
with_dependents-requires-clause-dependents g c = dependents-below (g.P.ShortestPath.problem c.args.problem.now) c.args.dependents.now c.requires.dependents

pub returns-clause-scope : goal.returns-clause-scope
returns-clause-scope g c =
    let p = g.P.ShortestPath.problem c.args.problem.now in
    let is = c.deref.ensures.value ∙ c.in_ok-changed.ensures {u = tt} in
    let found = (c.in_ok-affected.ensures {u = tt}) in
    let more = (c.in_ok-compared.ensures {u = tt}) in
    scope-is p c.args.dependents.now c.requires.dependents c.args.policy.now c.requires.policy c.args.changes.now c.requires.changes c.in_ok-affected.affected.items
    (subst (λ (xs : List ℕ). AreComingTo c.args.dependents.now c.args.policy.now xs c.in_ok-affected.affected.items) is found.found)
    c.in_ok-compared.compared.items
    (subst (λ (xs : List ℕ). AreWithDependents c.args.dependents.now xs c.in_ok-compared.compared.items) c.deref-2.ensures.value more.found)
    (subst (λ n. All (λ s. s < n) c.in_ok-affected.affected.items) c.requires.dependents.each_node found.in_range)
    found.ascend
    (subst (λ n. All (λ s. s < n) c.in_ok-compared.compared.items) c.requires.dependents.each_node more.in_range)
    more.ascend

pub with_dependents-requires-clause-nodes : goal.with_dependents-requires-clause-nodes
with_dependents-requires-clause-nodes g c = subst (λ (xs : List ℕ). All (λ s. s < length c.args.dependents.now) xs) (sym c.deref-2.ensures.value) (c.in_ok-affected.ensures {u = tt}).in_range

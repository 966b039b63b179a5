use Rattle.std.proofs.Common.{◌≡◌, [], replicate, map}
use Rattle.mdp_policy_iteration.proofs.dependents.Dependents.none.Given as goal

abbrev pub invariant-loop : goal.invariant-loop
invariant-loop l = map (λ list. list.items) l.lists.items ≡ replicate l.counter []

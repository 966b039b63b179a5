use Rattle.std.proofs.Common.{map, take}
use Rattle.mdp_policy_iteration.proofs.Pushing.{IsPushed}
use Rattle.mdp_policy_iteration.proofs.dependents.Dependents.push.Given as goal

abbrev pub invariant-loop-t : goal.invariant-loop-t
invariant-loop-t l = IsPushed (map (λ list. list.items) l.initial.self-inside.lists.items) (map (λ list. list.items) l.self-inside.lists.items) l.dependent (take l.t-index l.nodes)

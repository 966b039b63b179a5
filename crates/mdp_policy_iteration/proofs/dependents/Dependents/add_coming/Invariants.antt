use Rattle.std.proofs.Common.{◌-◌, length}
use Rattle.mdp_policy_iteration.proofs.Searching.{IsSearching}
use Rattle.mdp_policy_iteration.proofs.dependents.Dependents.add_coming.Given as goal

abbrev pub invariant-loop-next : goal.invariant-loop-next
invariant-loop-next l = IsSearching l.self l.policy l.initial.found.items (length l.initial.marks) l.next l.marks l.found.items

abbrev pub decreases-loop-next : goal.decreases-loop-next
decreases-loop-next l = length l.initial.marks - l.next

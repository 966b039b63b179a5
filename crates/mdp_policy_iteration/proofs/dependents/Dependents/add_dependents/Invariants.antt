use Rattle.std.proofs.Common.{take}
use Rattle.mdp_policy_iteration.specs.Marked.{AreAdded, depends_on_one}
use Rattle.mdp_policy_iteration.proofs.dependents.Dependents.add_dependents.Given as goal

abbrev pub invariant-loop-t : goal.invariant-loop-t
invariant-loop-t l = AreAdded (depends_on_one l.self (take l.t-index l.nodes)) l.initial.marks l.marks l.initial.found.items l.found.items

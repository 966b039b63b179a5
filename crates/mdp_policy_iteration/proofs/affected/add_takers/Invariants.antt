use Rattle.std.proofs.Common.{take}
use Rattle.mdp_policy_iteration.specs.Marked.{AreAdded, is_taker}
use Rattle.mdp_policy_iteration.proofs.affected.add_takers.Given as goal

abbrev pub invariant-loop-pred : goal.invariant-loop-pred
invariant-loop-pred l = AreAdded (is_taker l.policy (take l.pred-index l.choices)) l.initial.marks l.marks l.initial.found.items l.found.items

use Rattle.std.proofs.Common.{take}
use Rattle.mdp_graph.proofs.FlatWaiting.{AreAll}
use Rattle.mdp_parts.proofs.AllAllowed.{choice_counts}
use Rattle.mdp_parts.proofs.allowed.Allowed.all_true.Given as goal

abbrev pub invariant-loop-s : goal.invariant-loop-s
invariant-loop-s l = AreAll l.values.items l.starts.items (take l.s (choice_counts l.model))

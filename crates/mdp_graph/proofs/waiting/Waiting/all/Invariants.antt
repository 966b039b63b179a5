use Rattle.std.proofs.Common.{take}
use Rattle.mdp_graph.proofs.FlatWaiting.{AreAll}
use Rattle.mdp_graph.proofs.waiting.Waiting.all.Given as goal

abbrev pub invariant-loop-count : goal.invariant-loop-count
invariant-loop-count l = AreAll l.choices.items l.starts.items (take l.count-index l.count-items)

use Rattle.std.proofs.Common.{take, []}
use Rattle.mdp_graph.specs.Waiting.{AreMet, leading_to}
use Rattle.mdp_graph.proofs.waiting.Waiting.met_by.Given as goal

abbrev pub invariant-loop-t : goal.invariant-loop-t
invariant-loop-t l = AreMet l.initial.self l.self (leading_to l.preds (take l.t-index l.layer)) l.ranks [] l.met.items

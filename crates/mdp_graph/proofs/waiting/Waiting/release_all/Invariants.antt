use Rattle.std.proofs.Common.{take}
use Rattle.mdp_graph.specs.Waiting.{AreMet}
use Rattle.mdp_graph.proofs.waiting.Waiting.release_all.Given as goal

abbrev pub invariant-loop-pred : goal.invariant-loop-pred
invariant-loop-pred l = AreMet l.initial.self l.self (take l.pred-index l.preds) l.ranks l.initial.met.items l.met.items

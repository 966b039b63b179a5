use Rattle.std.proofs.Common.{take}
use Rattle.mdp_graph.specs.Forest.{IsCut}
use Rattle.mdp_graph.proofs.forest.cut.Given as goal

abbrev pub invariant-loop-pred : goal.invariant-loop-pred
invariant-loop-pred l = IsCut l.initial.ways.items l.initial.list.items l.ways.items l.list.items (take l.pred-index l.preds) l.only

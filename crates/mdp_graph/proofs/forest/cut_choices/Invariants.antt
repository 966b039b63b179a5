use Rattle.std.proofs.Common.{take, [], None}
use Rattle.mdp_graph.specs.{Waiting.{leading_to}, Forest.{IsCut}}
use Rattle.mdp_graph.proofs.forest.cut_choices.Given as goal

abbrev pub invariant-loop-t : goal.invariant-loop-t
invariant-loop-t l = IsCut l.initial.ways.items [] l.ways.items l.list.items (leading_to l.preds (take l.t-index l.fell)) None

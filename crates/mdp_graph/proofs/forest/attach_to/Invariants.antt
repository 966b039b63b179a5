use Rattle.std.proofs.Common.{take}
use Rattle.mdp_graph.specs.Forest.{IsGrown, IsTaken, IsWayTo, HasWayTo}
use Rattle.mdp_graph.proofs.forest.attach_to.Given as goal

abbrev pub invariant-loop-pred : goal.invariant-loop-pred
invariant-loop-pred l = record {
  grown : IsGrown l.goals l.initial.ways.items l.ways.items (IsWayTo l.allowed (take l.pred-index l.preds) l.t) (HasWayTo l.allowed (take l.pred-index l.preds));
  taken : IsTaken l.initial.ways.items l.initial.next.items l.ways.items l.next.items;
}

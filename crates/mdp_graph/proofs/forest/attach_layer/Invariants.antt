use Rattle.std.proofs.Common.{take, []}
use Rattle.mdp_graph.specs.Forest.{IsGrown, IsTaken, IsWayInto, HasWayInto}
use Rattle.mdp_graph.proofs.forest.attach_layer.Given as goal

abbrev pub invariant-loop-t : goal.invariant-loop-t
invariant-loop-t l = record {
  grown : IsGrown l.goals l.initial.ways.items l.ways.items (IsWayInto l.allowed l.preds (take l.t-index l.layer)) (HasWayInto l.allowed l.preds (take l.t-index l.layer));
  taken : IsTaken l.initial.ways.items [] l.ways.items l.next.items;
}

use Rattle.std.proofs.Common.{[]}
use Rattle.mdp_graph.specs.Forest.{IsGrown, IsTaken}
use Rattle.mdp_graph.proofs.Taking.{IsFoundBelow, HasBelow}
use Rattle.mdp_graph.proofs.forest.take_found.Given as goal

abbrev pub invariant-loop-i : goal.invariant-loop-i
invariant-loop-i l = record {
  grown : IsGrown l.goals l.initial.ways.items l.ways.items (IsFoundBelow l.i l.states l.found) (HasBelow l.i l.states l.found);
  taken : IsTaken l.initial.ways.items [] l.ways.items l.layer.items;
}

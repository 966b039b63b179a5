use Rattle.std.proofs.Common.{◌≡◌, length}
use Rattle.mdp_spec.specs.Mdp.{states_of}
use Rattle.mdp_parts.specs.Losing.{IsPruned, AreLosing}
use Rattle.mdp_parts.proofs.losing.Losing.search_each.Given as goal

abbrev pub invariant-loop-next : goal.invariant-loop-next
invariant-loop-next l = record {
  pruned : IsPruned l.model l.initial.allowed l.allowed;
  losing : AreLosing l.model l.allowed l.self.first.items l.self.lost.items l.self.seeds.items;
  region : length l.region.places.items ≡ states_of l.model;
}

use Rattle.std.proofs.Common.{◌≡◌, ◌+◌, length}
use Rattle.mdp_spec.specs.Mdp.{states_of}
use Rattle.mdp_ends.proofs.Existing.{total_below}
use Rattle.mdp_parts.specs.{Allowed.{allowed_at}, Losing.{IsPruned, AreLosing}}
use Rattle.mdp_parts.proofs.losing.Losing.forbid_losing.Given as goal

abbrev pub invariant-loop-t : goal.invariant-loop-t
invariant-loop-t l = record {
  pruned : IsPruned l.model l.fn.allowed l.allowed;
  losing : AreLosing l.model l.allowed l.self.first.items l.self.lost.items l.self.seeds.items;
  region : length l.region.places.items ≡ states_of l.model;
}

abbrev pub decreases-loop-t : goal.decreases-loop-t
decreases-loop-t l = total_below l.model (allowed_at l.allowed) (states_of l.model) + length l.self.lost.items

use Rattle.std.proofs.Common.{◌≡◌, ℕ, ◌<◌, true, length, get_or}
use Rattle.mdp_parts.specs.Region.{is_in, IsRegion, IsGrown}
use Rattle.mdp_parts.proofs.region.Region.add_each.Given as goal

abbrev pub invariant-loop-t : goal.invariant-loop-t
invariant-loop-t l = record {
  region : IsRegion (length l.initial.self.places.items) l.self.places.items l.self.list.items;
  grown : IsGrown l.initial.self.places.items l.initial.self.list.items l.self.places.items l.self.list.items;
  added : (k : ℕ) → k < l.t-index → is_in l.self.places.items l.self.list.items (get_or l.states k 0) ≡ true;
}

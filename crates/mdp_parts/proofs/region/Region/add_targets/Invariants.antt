use Rattle.mdp_spec.specs.Mdp.{states_of}
use Rattle.mdp_parts.specs.Region.{is_in, IsRegion, IsGrown}
use Rattle.mdp_parts.proofs.Gathering.{IsClosedBefore}
use Rattle.mdp_parts.proofs.region.Region.add_targets.Given as goal

abbrev pub invariant-loop-c : goal.invariant-loop-c
invariant-loop-c l = record {
  region : IsRegion (states_of l.model) l.self.places.items l.self.list.items;
  grown : IsGrown l.initial.self.places.items l.initial.self.list.items l.self.places.items l.self.list.items;
  closed : IsClosedBefore l.model l.allowed (is_in l.self.places.items l.self.list.items) l.s l.c;
}

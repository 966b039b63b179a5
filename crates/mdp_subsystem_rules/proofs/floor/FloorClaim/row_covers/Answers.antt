use Rattle.std.proofs.lemmas.List.FromFn.{length-map-range_with_len}
use Rattle.mdp_subsystem_rules.proofs.floor.FloorClaim.row_covers.Goals as goal

pub sum_over-requires : goal.sum_over-requires
sum_over-requires c = rw length-map-range_with_len c.requires

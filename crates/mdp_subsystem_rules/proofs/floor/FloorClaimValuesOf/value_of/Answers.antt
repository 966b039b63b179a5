use Rattle.std.proofs.lemmas.List.FromFn.{length-map-range_with_len}
use Rattle.mdp_subsystem_rules.proofs.floor.FloorClaimValuesOf.value_of.Goals as goal

pub counted-requires : goal.counted-requires
counted-requires c = rw length-map-range_with_len at c.requires

use Rattle.std.proofs.{Common.{◌∙◌, ap, length}, lemmas.List.FromFn.{length-map-range_with_len}}
use Rattle.mdp_reach.proofs.ranks.min_ranks.Goals as goal

pub must_meet-requires : goal.must_meet-requires
must_meet-requires c = record { target = ap length (c.in_ok-targets.ensures {u = tt}) ∙ length-map-range_with_len _ 0 _ }

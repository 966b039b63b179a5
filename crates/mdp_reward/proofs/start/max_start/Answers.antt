use Rattle.std.proofs.{Common.{◌∙◌, ap, length}, lemmas.List.FromFn.{length-map-range_with_len}}
use Rattle.mdp_reward.proofs.start.max_start.Goals as goal

pub split-requires-2-clause-marks : goal.split-requires-2-clause-marks
split-requires-2-clause-marks c = ap length (c.in_ok-finite.ensures {u = tt}) ∙ length-map-range_with_len _ 0 _

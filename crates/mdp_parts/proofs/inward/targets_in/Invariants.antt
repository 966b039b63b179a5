use Rattle.std.proofs.Common.{◌≡◌, map}
use Rattle.std.specs.List.{range_with_len}
use Rattle.mdp_ends.specs.Toward.{target_in}
use Rattle.mdp_parts.proofs.inward.targets_in.Given as goal

abbrev pub invariant-loop-s : goal.invariant-loop-s
invariant-loop-s l = l.values.items ≡ map (target_in l.ends.parts l.i l.target) (range_with_len 0 l.s)

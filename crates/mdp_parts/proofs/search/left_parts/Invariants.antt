use Rattle.std.proofs.Common.{◌≡◌, map}
use Rattle.std.specs.List.{range_with_len}
use Rattle.mdp_parts.specs.Round.{key_of}
use Rattle.mdp_parts.proofs.search.left_parts.Given as goal

abbrev pub invariant-loop-s : goal.invariant-loop-s
invariant-loop-s l = l.keys.items ≡ map (key_of l.model l.allowed l.parts) (range_with_len 0 l.s)

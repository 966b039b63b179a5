use Rattle.std.proofs.Common.{◌≡◌, map}
use Rattle.std.specs.List.{range_with_len}
use Rattle.mdp_unichain.specs.Classes.{differs}
use Rattle.mdp_gain.proofs.classes.differing.Given as goal

abbrev pub invariant-loop-s : goal.invariant-loop-s
invariant-loop-s l = l.flags.items ≡ map (differs l.policy l.improved) (range_with_len 0 l.s)

use Rattle.std.proofs.Common.{◌≡◌, if◌then◌else◌, map}
use Rattle.std.specs.{List.{range_with_len}, Prelude.{slice_index}}
use Rattle.mdp_spec.specs.Tree.{is_marked}
use Rattle.mdp_reward.proofs.ranks.split.Given as goal

abbrev pub invariant-loop-s : goal.invariant-loop-s
invariant-loop-s l = l.both.items ≡ map (λ s. if is_marked l.marks s then slice_index l.inside s else slice_index l.outside s) (range_with_len 0 l.s)

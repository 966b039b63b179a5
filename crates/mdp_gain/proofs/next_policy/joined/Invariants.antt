use Rattle.std.proofs.Common.{◌≡◌, map, if◌then◌else◌}
use Rattle.std.specs.{Prelude.{slice_index}, List.{range_with_len}}
use Rattle.mdp_graph.specs.Sets.{marked}
use Rattle.mdp_gain.proofs.next_policy.joined.Given as goal

abbrev pub invariant-loop-s : goal.invariant-loop-s
invariant-loop-s l = l.both.items ≡ map (λ s. if marked l.marks s then slice_index l.inside s else slice_index l.outside s) (range_with_len 0 l.s)

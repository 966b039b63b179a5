use Rattle.std.proofs.Common.{◌≡◌, map, not, ◌==◌}
use Rattle.std.specs.{List.{range_with_len}, Prelude.{slice_index}}
use Rattle.mdp_mean.proofs.parts.leaving.Given as goal

abbrev pub invariant-loop-s : goal.invariant-loop-s
invariant-loop-s l = l.marks.items ≡ map (λ s. not (slice_index l.policy (slice_index l.quotient.nodes s) == 0)) (range_with_len 0 l.s)

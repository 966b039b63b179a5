use Rattle.std.proofs.Common.{◌≡◌, map}
use Rattle.std.specs.{List.{range_with_len}, Prelude.{slice_index}}
use Rattle.mdp_spec.specs.Mdp.{value_at}
use Rattle.mdp_mean.proofs.parts.at_nodes.Given as goal

abbrev pub invariant-loop-s : goal.invariant-loop-s
invariant-loop-s l = l.list.items ≡ map (λ s. value_at l.values (slice_index l.quotient.nodes s)) (range_with_len 0 l.s)

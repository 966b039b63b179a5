use Rattle.std.proofs.Common.{◌≡◌, map, length}
use Rattle.std.specs.List.{range_with_len}
use Rattle.mdp_spec.specs.Mdp.{choices_at}
use Rattle.mdp_graph.proofs.waiting.choice_counts.Given as goal

abbrev pub invariant-loop-s : goal.invariant-loop-s
invariant-loop-s l = l.counts.items ≡ map (λ s. length (choices_at l.model s)) (range_with_len 0 l.s)

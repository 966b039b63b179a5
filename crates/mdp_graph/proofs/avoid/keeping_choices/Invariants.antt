use Rattle.std.proofs.Common.{◌≡◌, map, length}
use Rattle.std.specs.List.{range_with_len}
use Rattle.mdp_spec.specs.Mdp.{choices_at}
use Rattle.mdp_graph.specs.{Choices.{first_below}, Avoid.{keeps}}
use Rattle.mdp_graph.proofs.avoid.keeping_choices.Given as goal

abbrev pub invariant-loop-s : goal.invariant-loop-s
invariant-loop-s l = l.choices.items ≡ map (λ s. first_below (keeps l.model l.marks s) (length (choices_at l.model s))) (range_with_len 0 l.s)

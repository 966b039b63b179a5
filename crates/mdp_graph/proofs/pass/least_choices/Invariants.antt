use Rattle.std.proofs.Common.{◌≡◌, map, length}
use Rattle.std.specs.List.{range_with_len}
use Rattle.mdp_spec.specs.Mdp.{choices_at}
use Rattle.mdp_graph.specs.Choices.{may_fall, first_below}
use Rattle.mdp_graph.proofs.pass.least_choices.Given as goal

abbrev pub invariant-loop-s : goal.invariant-loop-s
invariant-loop-s l = l.choices.items ≡ map (λ s. first_below (may_fall l.model l.inside l.ranks s) (length (choices_at l.model s))) (range_with_len 0 l.s)

use Rattle.std.proofs.Common.{◌≡◌, map, length}
use Rattle.std.specs.List.{range_with_len}
use Rattle.mdp_spec.specs.Mdp.{choices_at}
use Rattle.mdp_graph.specs.Choices.{first_below}
use Rattle.mdp_parts.specs.Inner.{may_fall_inside}
use Rattle.mdp_parts.proofs.inward.least_choices.Given as goal

abbrev pub invariant-loop-s : goal.invariant-loop-s
invariant-loop-s l = l.choices.items ≡ map (λ s. first_below (may_fall_inside l.model l.ends.parts l.ranks s) (length (choices_at l.model s))) (range_with_len 0 l.s)

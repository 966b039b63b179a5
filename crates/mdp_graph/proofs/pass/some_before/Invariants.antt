use Rattle.std.proofs.Common.{◌≡◌, false, take}
use Rattle.std.specs.List.{list_any}
use Rattle.mdp_graph.specs.{Layers.{rank_at}, Choices.{is_before}}
use Rattle.mdp_graph.proofs.pass.some_before.Given as goal

abbrev pub invariant-loop-t : goal.invariant-loop-t
invariant-loop-t l = list_any (λ t. is_before l.rank (rank_at l.ranks t)) (take l.t-index l.targets) ≡ false

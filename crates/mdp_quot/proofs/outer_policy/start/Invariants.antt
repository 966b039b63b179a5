use Rattle.std.proofs.Common.{◌≡◌, map}
use Rattle.std.specs.List.{range_with_len}
use Rattle.mdp_quot.specs.Problem.{component_of, first_choice}
use Rattle.mdp_quot.proofs.outer_policy.start.Given as goal

abbrev pub invariant-loop-node : goal.invariant-loop-node
invariant-loop-node l = l.policy.items ≡ map (λ k. first_choice (component_of l.quotient k)) (range_with_len 0 l.node)

use Rattle.std.proofs.Common.{◌≡◌, not, map}
use Rattle.std.specs.List.{range_with_len}
use Rattle.mdp_spec.specs.Tree.{is_marked}
use Rattle.mdp_reward.proofs.start.unmarked.Given as goal

abbrev pub invariant-loop-s : goal.invariant-loop-s
invariant-loop-s l = l.rest.items ≡ map (λ s. not (is_marked l.marks s)) (range_with_len 0 l.s)

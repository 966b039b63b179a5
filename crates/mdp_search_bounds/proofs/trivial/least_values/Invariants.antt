use Rattle.std.proofs.Common.{◌≡◌, map, if◌then◌else◌}
use Rattle.std.specs.List.{range_with_len}
use Rattle.mdp_spec.specs.Tree.{is_marked}
use Rattle.mdp_farkas.specs.Compare.{0ℚ, 1ℚ}
use Rattle.mdp_search_bounds.proofs.trivial.least_values.Given as goal

abbrev pub invariant-loop-s : goal.invariant-loop-s
invariant-loop-s l = l.values.items ≡ map (λ s. if is_marked l.goals s then 1ℚ else 0ℚ) (range_with_len 0 l.s)

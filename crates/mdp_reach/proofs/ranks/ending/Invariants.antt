use Rattle.std.proofs.Common.{◌≡◌, ◌||◌, not, map, pos}
use Rattle.std.specs.List.{range_with_len}
use Rattle.mdp_math.specs.Rational.{of_int, lt_ℚ}
use Rattle.mdp_spec.specs.{Mdp.{value_at}, Tree.{is_marked}}
use Rattle.mdp_reach.proofs.ranks.ending.Given as goal

abbrev pub invariant-loop-s : goal.invariant-loop-s
invariant-loop-s l = l.marks.items ≡ map (λ s. is_marked l.goals s || not (lt_ℚ (of_int (pos 0)) (value_at l.values s))) (range_with_len 0 l.s)

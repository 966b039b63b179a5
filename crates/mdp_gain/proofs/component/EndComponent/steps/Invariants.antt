use Rattle.std.proofs.Common.{◌≡◌, map, pos}
use Rattle.std.specs.List.{range_with_len}
use Rattle.mdp_math.specs.Rational.{of_int}
use Rattle.mdp_gain.proofs.component.EndComponent.steps.Given as goal

abbrev pub invariant-loop-s : goal.invariant-loop-s
invariant-loop-s l = l.ones.items ≡ map (λ s. of_int (pos 1)) (range_with_len 0 l._s)

use Rattle.std.proofs.Common.{◌≡◌}
use Rattle.mdp_math.specs.Gcd.{gcd}
use Rattle.mdp_num.proofs.gcd.divisor_above.Given as goal

abbrev pub invariant-loop-y : goal.invariant-loop-y
invariant-loop-y l = gcd l.x l.y ≡ gcd l.fn.a l.fn.b

abbrev pub decreases-loop-y : goal.decreases-loop-y
decreases-loop-y l = l.y

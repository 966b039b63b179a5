use Rattle.std.proofs.Common.{sym, ◌∙◌, arith}
use Rattle.mdp_math.specs.Gcd.{gcd-mod, gcd-le_right}
use Rattle.mdp_num.proofs.Divisors.{divisor-zero}
use Rattle.mdp_num.proofs.gcd.divisor_above.Goals as goal

pub loop-y-preserved : goal.loop-y-preserved
loop-y-preserved c = sym (gcd-mod c.loop-y.x c.loop-y.y) ∙ c.loop-y.invariant

pub returns-then-y-eq0-clause-found : goal.returns-then-y-eq0-clause-found
returns-then-y-eq0-clause-found c = divisor-zero c.loop-y.x c.loop-y.y c.if-y-eq0.true ∙ c.loop-y.invariant

pub returns-clause-small : goal.returns-clause-small
returns-clause-small c = omega (arith, c.loop-y.invariant, c.loop-y-test.false, gcd-le_right c.loop-y.x c.loop-y.y (omega (arith, c.if-y-eq0.false)))

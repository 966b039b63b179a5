use Rattle.std.proofs.{Common.{◌≡◌, ◌<◌, ◌^◌, ◌∙◌, ap, ap₂, arith, unsigned_abs, pos, sym, to_z, to_z-of_z}, lemmas.Int.{ints, to_z_pos}}
use mir.Syntax.{w128}
use Rattle.mdp_math.specs.Gcd.{gcd, gcd-le_right}
use Rattle.mdp_num.proofs.Divisors.{divisor-one}
use Rattle.mdp_num.proofs.frac.common_divisor.Goals as goal

gcd-is : (c : goal.After-greatest_common_divisor) → c.greatest_common_divisor.result ≡ gcd (unsigned_abs c.args.a) (unsigned_abs c.args.b)
gcd-is c = c.greatest_common_divisor.ensures ∙ ap₂ gcd (c.unsigned_abs.ensures.value ∙ ap unsigned_abs (to_z-of_z c.ranges.a))
    (c.unsigned_abs-2.ensures.value ∙ ap unsigned_abs (to_z-of_z c.ranges.b))

small : (c : goal.After-greatest_common_divisor) → c.greatest_common_divisor.result < 2 ^ 127
small c =
    let p : 0 < unsigned_abs c.args.b = omega (arith, ints) in
    let q : unsigned_abs c.args.b < 2 ^ 127 = omega (arith, ints, c.ranges.b) in
    omega (arith, gcd-is c, gcd-le_right (unsigned_abs c.args.a) (unsigned_abs c.args.b) p)

pub returns-then-b-eq1 : goal.returns-then-b-eq1
returns-then-b-eq1 c = ap pos (divisor-one (unsigned_abs c.args.a) (unsigned_abs c.args.b) (ap unsigned_abs (sym (to_z-of_z c.ranges.b) ∙ ap (to_z w128) c.if-b-eq1.true)))

pub overflow_cast-result : goal.overflow_cast-result
overflow_cast-result c = record { sfits = small c }

pub returns : goal.returns
returns c = to_z_pos w128 c.greatest_common_divisor.result (small c) ∙ ap pos (gcd-is c)

use Rattle.std.proofs.Common.{◌∙◌, ◌<◌, ◌^◌, ◌/◌, ℤ, pos, unsigned_abs, sym, ap, subst, to_z-of_z}
use mir.Syntax.{w128}
use mir.Val.{to_z, of_z}
use Rattle.mdp_math.specs.Gcd.{gcd}
use Rattle.mdp_math.proofs.Laws.{den-pos}
use Rattle.mdp_horizon.proofs.{Fractions.{beyond_told, beyond_kept}, Loops.{back}}
use Rattle.mdp_horizon.proofs.scaling.beyond.Goals as goal

pub returns-in-Ok : goal.returns-in-Ok
returns-in-Ok c =
    let d = c.args.fraction.now.den in
    let small : unsigned_abs c.den-den.result < 2 ^ 127 = subst (λ (z : ℤ). unsigned_abs z < 2 ^ 127) (sym c.den-den.ensures.value) c.den-den.ensures.narrow.bottom in
    let narrow : unsigned_abs c.den.result < 2 ^ 127 = subst (λ (z : ℤ). unsigned_abs z < 2 ^ 127) (sym c.den.ensures.value) c.den.ensures.narrow.bottom in
    back c.den.result narrow
    ∙ beyond_told (to_z w128 (of_z w128 c.args.common)) d (to_z w128 (of_z w128 c.den-den.result)) c.in-Ok.quotient c.den.result (den-pos c.args.fraction.now)
    (back c.den-den.result small ∙ c.den-den.ensures.value) c.in-Ok.ensures.value c.den.ensures.value
    ∙ ap (λ (n : ℤ). pos (d / gcd (unsigned_abs n) d)) (to_z-of_z c.ranges.common)

pub returns-in-Err : goal.returns-in-Err
returns-in-Err c =
    let d = c.args.fraction.now.den in
    let small : unsigned_abs c.den-den.result < 2 ^ 127 = subst (λ (z : ℤ). unsigned_abs z < 2 ^ 127) (sym c.den-den.ensures.value) c.den-den.ensures.narrow.bottom in
    absurd (beyond_kept (to_z w128 (of_z w128 c.args.common)) d (to_z w128 (of_z w128 c.den-den.result)) (den-pos c.args.fraction.now) c.den-den.ensures.narrow.bottom
    (subst (λ (z : ℤ). unsigned_abs z < 2 ^ 127) (sym (to_z-of_z c.ranges.common)) c.requires) (back c.den-den.result small ∙ c.den-den.ensures.value) c.in-Err.ensures.value)

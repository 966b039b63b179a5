use Rattle.std.proofs.{Common.{◌≡◌, ◌∙◌, ◌^◌, arith, pos, subst, sym, to_z, of_z, to_z-of_z}, lemmas.Int.{ints}, Math.Nat.{one-le-pow}}
use Rattle.std.specs.Prelude.{FitsSigned}
use mir.Syntax.{w128}
use Rattle.mdp_math.specs.Rational.{ℚ, ◌≤ℚ◌}
use Rattle.mdp_search_bounds.proofs.Nearness.{le_of_order, most_is, ten-fits}
use Rattle.mdp_search_bounds.proofs.gap.is_within.Goals as goal

pub returns-in-Ok : goal.returns-in-Ok
returns-in-Ok c holds =
    let one = one-le-pow c.args.digits 10 (omega arith) in
    let ten : to_z w128 (of_z w128 c.power_of_ten.result) ≡ pos (10 ^ c.args.digits) =
    to_z-of_z (subst (FitsSigned w128) (sym c.power_of_ten.ensures) (ten-fits c.args.digits c.requires)) ∙ c.power_of_ten.ensures in
    let most = most_is c.args.scale _ _ c.in-Ok.most (10 ^ c.args.digits) (to_z-of_z c.ranges.scale) ten (c.in-Ok.ensures.value (λ z. omega (arith, ints, sym ten ∙ z))) in
    subst (λ (x : ℚ). c.args.gap.now ≤ℚ x) most (le_of_order c.args.gap.now c.in-Ok.most c.order.result c.order.ensures (sym c.ne.ensures ∙ holds))

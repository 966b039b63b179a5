use Rattle.std.proofs.Common.{◌∙◌, ℤ, Option, Some, sym, ap, ap₂, rules, to_z-of_z}
use mir.Syntax.{w64}
use mir.Val.{SFits}
use Rattle.mdp_num.proofs.Values.{result-bits}
use Rattle.mdp_horizon.specs.{Short.{known}, Whole.{rounded, farther}, BoundsCode.{plain_short}}
use Rattle.mdp_horizon.proofs.Past.{reached_same, covered_kept, covered_to}
use Rattle.mdp_horizon.proofs.choice.ShortChoice.covered_with.Goals as goal

pub returns-then-not-past : goal.returns-then-not-past
returns-then-not-past c =
    let d : SFits w64 c.args.self.now.common = search rules in
    covered_kept c.args.dir (known c.args.values.now) (plain_short c.args.self.now) c.summed-sum.result c.summed-sum.ensures.value c.args.far c.summed-sum.ensures.positive
    (reached_same c.args.dir c.args.far c.summed-sum.result c.args.self.now.common _ _ _ (to_z-of_z {w = w64} c.ranges.far) (result-bits c.summed-sum.result c.summed-sum.type_inv)
    (to_z-of_z d) (c.is_past-past.ensures c.if-not-past.true))
    ∙ ap (λ (z : ℤ). let o : Option ℤ = Some z in o) (sym (to_z-of_z {w = w64} c.ranges.far))

pub returns : goal.returns
returns c =
    let d : SFits w64 c.args.self.now.common = search rules in
    let f : SFits w64 c.in_ok-quotient.quotient = search rules in
    let g : SFits w64 c.farther.result = search rules in
    covered_to c.args.dir (known c.args.values.now) (plain_short c.args.self.now) c.summed-sum.result c.summed-sum.ensures.value c.args.far c.in_ok-quotient.quotient
    (c.in_ok-quotient.ensures {u = tt} ∙ ap₂ (rounded c.args.dir) (result-bits c.summed-sum.result c.summed-sum.type_inv) (to_z-of_z d))
    ∙ ap (λ (z : ℤ). let o : Option ℤ = Some z in o)
    (sym (to_z-of_z g ∙ c.farther.ensures ∙ ap₂ (farther c.args.dir) (to_z-of_z {w = w64} c.ranges.far) (to_z-of_z f)))

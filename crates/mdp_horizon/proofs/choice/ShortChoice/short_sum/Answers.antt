use Rattle.std.proofs.Common.{◌∙◌, ℤ, Option, Some, sym, ap, ap₂, rules, to_z-of_z}
use mir.Syntax.{w64}
use mir.Val.{SFits}
use Rattle.std.proofs.lemmas.Option.{IfSome_then}
use Rattle.mdp_num.proofs.Values.{result-bits}
use Rattle.mdp_horizon.specs.{Short.{known}, Whole.{rounded}, BoundsCode.{plain_short}}
use Rattle.mdp_horizon.proofs.Past.{sum_divided}
use Rattle.mdp_horizon.proofs.choice.ShortChoice.short_sum.Goals as goal

pub returns : goal.returns
returns c =
    let d : SFits w64 c.args.self.now.common = search rules in
    IfSome_then c.short_rounded.result c.short_rounded.ensures
    (λ q h.
    sum_divided c.args.side (known c.args.values.now) (plain_short c.args.self.now) c.summed-sum.result c.summed-sum.ensures.value
    ∙ ap (λ (z : ℤ). let o : Option ℤ = Some z in o)
    (sym (h ∙ ap₂ (rounded c.args.side) (result-bits c.summed-sum.result c.summed-sum.type_inv) (to_z-of_z d))))

use Rattle.std.proofs.Common.{◌∙◌, ◌*ℤ◌, ℤ, ap, ap₂, to_z-of_z}
use Rattle.mdp_num.proofs.Values.{result-bits}
use Rattle.mdp_horizon.specs.declared.choice.Term.{Term}
use Rattle.mdp_horizon.proofs.Probabilities.{part_is, weight_fits}
use Rattle.mdp_horizon.proofs.scaling.term_of.Goals as goal

pub overflow_mul-weight : goal.overflow_mul-weight
overflow_mul-weight c =
    weight_fits c.args.prob.now c.args.common _ _ c.requires.probability c.requires.narrow (result-bits c.num.result c.num.type_inv ∙ c.num.ensures.value)
    (part_is c.args.prob.now c.args.common _ _ c.requires.narrow (to_z-of_z c.ranges.common) (result-bits c.den.result c.den.type_inv ∙ c.den.ensures.value))

pub returns : goal.returns
returns c =
    let num = result-bits c.num.result c.num.type_inv ∙ c.num.ensures.value in
    let part = part_is c.args.prob.now c.args.common _ _ c.requires.narrow (to_z-of_z c.ranges.common) (result-bits c.den.result c.den.type_inv ∙ c.den.ensures.value) in
    ap (λ (w : ℤ). let t : Term = record { target = c.args.target; weight = w } in t)
    (to_z-of_z (weight_fits c.args.prob.now c.args.common _ _ c.requires.probability c.requires.narrow num part) ∙ ap₂ ◌*ℤ◌ num part)

use Rattle.std.proofs.Common.{◌≡◌, ◌∙◌, ◌+◌, ◌*◌, ◌≤◌, ◌^◌, ℤ, ◌+ℤ◌, ◌*ℤ◌, unsigned_abs, sym, ap₂, subst, to_z-of_z}
use mir.Syntax.{w64, w128}
use mir.Val.{to_z, of_z}
use Rattle.std.specs.Int.Signed.{nat_abs-le}
use Rattle.mdp_num.proofs.Values.{result-bits}
use Rattle.mdp_horizon.proofs.ShortSums.{product_fits, sum_fits, sum_room}
use Rattle.mdp_horizon.proofs.short_sums.added.Goals as goal

pub overflow_mul-result : goal.overflow_mul-result
overflow_mul-result c =
    product_fits c.args.total c.args.weight c.args.value (nat_abs-le c.args.value c.ranges.value.sfits) c.requires _ _
    (result-bits c.from-wide_weight.result c.from-wide_weight.type_inv ∙ c.from-wide_weight.ensures ∙ to_z-of_z {w = w64} c.ranges.weight)
    (result-bits c.from-wide_value.result c.from-wide_value.type_inv ∙ c.from-wide_value.ensures ∙ to_z-of_z {w = w64} c.ranges.value)

-- the product as the code holds it
product : (c : goal.After-from-wide_value)
    → to_z w128 (of_z w128 (to_z w128 (of_z w128 c.from-wide_weight.result) *ℤ to_z w128 (of_z w128 c.from-wide_value.result))) ≡ c.args.weight *ℤ c.args.value
product c =
    to_z-of_z (overflow_mul-result c)
    ∙ ap₂ ◌*ℤ◌ (result-bits c.from-wide_weight.result c.from-wide_weight.type_inv ∙ c.from-wide_weight.ensures ∙ to_z-of_z {w = w64} c.ranges.weight)
    (result-bits c.from-wide_value.result c.from-wide_value.type_inv ∙ c.from-wide_value.ensures ∙ to_z-of_z {w = w64} c.ranges.value)

pub overflow_add-result : goal.overflow_add-result
overflow_add-result c =
    sum_fits c.args.total c.args.weight c.args.value (nat_abs-le c.args.value c.ranges.value.sfits) c.requires _ _ (to_z-of_z c.ranges.total) (product c)

pub returns-clause-value : goal.returns-clause-value
returns-clause-value c = to_z-of_z (overflow_add-result c) ∙ ap₂ ◌+ℤ◌ (to_z-of_z c.ranges.total) (product c)

pub returns-clause-room : goal.returns-clause-room
returns-clause-room c =
    subst (λ (z : ℤ). unsigned_abs z ≤ unsigned_abs c.args.total + unsigned_abs c.args.weight * 2 ^ 63) (sym (returns-clause-value c))
    (sum_room c.args.total c.args.weight c.args.value (nat_abs-le c.args.value c.ranges.value.sfits) c.requires)

pub returns-clause-short : goal.returns-clause-short
returns-clause-short c = nat_abs-le c.args.value c.ranges.value.sfits

use Rattle.std.proofs.Common.{◌∙◌, ℤ, true, false, Some, refl, sym, ap, ap₂, rules, to_z-of_z}
use mir.Syntax.{w64, w128}
use mir.Val.{to_z, of_z, SFits}
use Rattle.mdp_num.proofs.Values.{result-bits}
use Rattle.mdp_rows.specs.declared.dir.Dir.{Dir}
use Rattle.mdp_horizon.specs.{Short.{known}, Whole.{rounded, opposite}, Columns.{is_ahead}, declared.leader.Leader.{Leader}, BoundsCode.{plain_short, plain_leader}}
use Rattle.mdp_horizon.proofs.Past.{behind_same, led_on, led_by}
use Rattle.mdp_horizon.proofs.choice.ShortChoice.judged.Goals as goal

pub returns-then-not-ahead : goal.returns-then-not-ahead
returns-then-not-ahead c =
    let d : SFits w64 c.args.self.now.common = search rules in
    let f : SFits w64 c.args.leader.value = search rules in
    led_on c.args.dir (known c.args.values.now) (plain_short c.args.self.now) c.summed-sum.result c.summed-sum.ensures.value c.args.c (plain_leader c.args.leader) c.args.leader.value refl
    c.summed-sum.ensures.positive
    (behind_same c.args.dir c.args.leader.value c.summed-sum.result c.args.self.now.common _ _ _ (to_z-of_z f) (result-bits c.summed-sum.result c.summed-sum.type_inv) (to_z-of_z d)
    (c.is_ahead-ahead.ensures c.if-not-ahead.true))

pub returns-then-better : goal.returns-then-better
returns-then-better c =
    let d : SFits w64 c.args.self.now.common = search rules in
    let f : SFits w64 c.in_ok-value.value = search rules in
    let g : SFits w64 c.args.leader.value = search rules in
    led_by c.args.dir (known c.args.values.now) (plain_short c.args.self.now) c.summed-sum.result c.summed-sum.ensures.value c.args.c (plain_leader c.args.leader) c.in_ok-value.value true
    (c.in_ok-value.ensures {u = tt}
    ∙ ap (λ (side : Dir). rounded side (to_z w128 (of_z w128 c.summed-sum.result)) (to_z w64 (of_z w64 c.args.self.now.common))) c.opposite.ensures
    ∙ ap₂ (rounded (opposite c.args.dir)) (result-bits c.summed-sum.result c.summed-sum.type_inv) (to_z-of_z d))
    (sym (ap₂ (λ (x y : ℤ). is_ahead c.args.dir (Some x) (Some y)) (result-bits c.from.result c.from.type_inv ∙ c.from.ensures ∙ to_z-of_z f)
    (result-bits c.from-2.result c.from-2.type_inv ∙ c.from-2.ensures ∙ to_z-of_z g))
    ∙ sym c.is_better-better.ensures ∙ c.if-better.true)
    ∙ ap (λ (z : ℤ). let l : Leader = record { value = Some z; choice = c.args.c } in l) (sym (to_z-of_z f))

pub returns : goal.returns
returns c =
    let d : SFits w64 c.args.self.now.common = search rules in
    let f : SFits w64 c.in_ok-value.value = search rules in
    let g : SFits w64 c.args.leader.value = search rules in
    led_by c.args.dir (known c.args.values.now) (plain_short c.args.self.now) c.summed-sum.result c.summed-sum.ensures.value c.args.c (plain_leader c.args.leader) c.in_ok-value.value false
    (c.in_ok-value.ensures {u = tt}
    ∙ ap (λ (side : Dir). rounded side (to_z w128 (of_z w128 c.summed-sum.result)) (to_z w64 (of_z w64 c.args.self.now.common))) c.opposite.ensures
    ∙ ap₂ (rounded (opposite c.args.dir)) (result-bits c.summed-sum.result c.summed-sum.type_inv) (to_z-of_z d))
    (sym (ap₂ (λ (x y : ℤ). is_ahead c.args.dir (Some x) (Some y)) (result-bits c.from.result c.from.type_inv ∙ c.from.ensures ∙ to_z-of_z f)
    (result-bits c.from-2.result c.from-2.type_inv ∙ c.from-2.ensures ∙ to_z-of_z g))
    ∙ sym c.is_better-better.ensures ∙ c.if-better.false)

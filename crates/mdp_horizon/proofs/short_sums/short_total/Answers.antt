use Rattle.std.proofs.Common.{◌∙◌, ◌+◌, ◌*◌, ◌<◌, ◌≤◌, ◌^◌, List, length, drop, get_or, ℤ, pos, unsigned_abs, sym, ap, subst, arith}
use mir.Syntax.{w128}
use mir.Val.{to_z}
use Rattle.mdp_num.proofs.Values.{result-bits}
use Rattle.mdp_horizon.specs.{declared.choice.ShortTerm.{ShortTerm}, Scaled.{total_of}, Short.{wide_terms, weights_of, known}}
use Rattle.mdp_horizon.proofs.{Loops.{rest_of}, ShortSums.{short_step, weights_at}}
use Rattle.mdp_horizon.proofs.short_sums.short_total.Goals as goal

pub loop-term-preserved : goal.loop-term-preserved
loop-term-preserved c =
    let values = c.args.values.now in
    let ts = c.args.short.terms.now in
    let i = c.loop-term.term-index in
    let total = to_z w128 c.loop-term.total-bits in
    let none : ShortTerm = record { target = 0; weight = pos 0 } in
    let inside : i < length ts = omega arith in
    let next = c.short_total_with-total.ensures in
    let same = result-bits c.short_total_with-total.result c.short_total_with-total.type_inv in
    let left = weights_at ts i none inside in
    let room = c.loop-term.invariant.room in
    let added = next.room in
    record {
      rest = c.loop-term.invariant.rest
          ∙ ap (λ (xs : List ShortTerm). total_of (known values) total (wide_terms xs)) (rest_of ts i none inside)
          ∙ short_step values (get_or ts i none) (drop (i + 1) ts) total (c.requires i none inside) next.short (omega (arith, left, room))
          ∙ ap (λ (z : ℤ). total_of (known values) z (wide_terms (drop (i + 1) ts))) (sym (same ∙ next.value));
      room = subst (λ (z : ℤ). unsigned_abs z + weights_of (drop (i + 1) ts) * 2 ^ 63 ≤ 2 ^ 126) (sym same) (omega (arith, left, room, added));
    }

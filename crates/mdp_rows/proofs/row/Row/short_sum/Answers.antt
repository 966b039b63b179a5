use Rattle.std.proofs.{Common.{mul-pos, ◌∙◌, Some, ℤ, unsigned_abs, to_z, to_z-of_z, sym, ap, arith}, lemmas.Int.{ints, fits_signed_from_abs}}
use mir.Syntax.{w128}
use Rattle.mdp_math.specs.Rational.{ℚ, ratio}
use Rattle.mdp_spec.specs.{Row.{entries}, Written.{written_sum}}
use Rattle.mdp_rows.proofs.ShortSums.{sum-read, product-is, written_sum-step, written_sum-end}
use Rattle.mdp_rows.proofs.row.Row.short_sum.Goals as goal

pub loop-i-preserved : goal.loop-i-preserved
loop-i-preserved g c =
    let shared = c.in_ok-shared.shared in
    let kept = c.loop-i.invariant in
    let s = sum-read _ _ _ _ (mul-pos shared.some_probs shared.some_values) shared.narrow kept.1 c.in_ok-term.ensures.narrow c.in-Ok.ensures in (
      kept.0 ∙ written_sum-step (g.V.ValuesOf.values c.args.values.now) c.args.self.targets.now c.args.self.probs.now c.loop-i.i c.index-self-i.result c.value_of.result _ _ _
          c.loop-i-test.true c.args.self.same_length c.value_of.ensures c.in_ok-term.ensures.value s.0,
      s.1,
    )

pub returns : goal.returns
returns g c =
    c.loop-i.invariant.0 ∙ written_sum-end _ c.args.self.targets.now c.args.self.probs.now c.loop-i.i _ c.loop-i-test.false
    ∙ ap Some (sym (c.of_terms.ensures ∙ ap (λ (z : ℤ). ratio (to_z w128 c.loop-i.sum-bits) (unsigned_abs z)) (product-is _ _ c.in_ok-shared.shared.is_product c.in_ok-shared.shared.narrow)))

pub of_terms-requires-clause-positive : goal.of_terms-requires-clause-positive
of_terms-requires-clause-positive g c =
    let shared = c.in_ok-shared.shared in
    omega (arith, ints, product-is shared.product _ shared.is_product shared.narrow, mul-pos shared.some_probs shared.some_values)

pub loop-i-init : goal.loop-i-init
loop-i-init g c =
    let start = c.in_ok-sum.ensures {u = tt} in
    rw (to_z-of_z (fits_signed_from_abs w128 c.in_ok-sum.sum start.narrow))
    (ap (λ (x : ℚ). written_sum (g.V.ValuesOf.values c.args.values.now) x (entries c.args.self.targets.now c.args.self.probs.now)) start.value, start.narrow)

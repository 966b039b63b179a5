use Rattle.std.proofs.Common.{◌∙◌, ◌<ℤ◌, ℤ, FitsSigned, pos, sym, ap, subst, arith, unsigned_abs}
use Rattle.std.proofs.lemmas.Int.{ints, fits_signed_from_abs}
use mir.Syntax.{w128}
use mir.Val.{to_z, of_z}
use Rattle.mdp_num.proofs.Values.{result-bits}
use Rattle.mdp_horizon.specs.{Finer.{unit_of}, Code.{plain_objective}}
use Rattle.mdp_horizon.proofs.{Fineness.{unit-positive, unit-narrow, unit_is}, Loops.{back}}
use Rattle.mdp_horizon.proofs.columns.Query.unit_of.Goals as goal

pub overflow_mul-result : goal.overflow_mul-result
overflow_mul-result c =
    let m = c.args.self.model.now in
    let o = plain_objective c.args.self.objective in
    let is = unit_is m o c.args.digits c.args.steps _ _ c.factor_of.result c.room-room.result c.span.result c.unsigned_abs.result c.widest-widest.result
    (result-bits c.power_of_ten-one.result c.power_of_ten-one.type_inv ∙ c.power_of_ten-one.ensures.value)
    (result-bits c.from.result c.from.type_inv ∙ c.from.ensures)
    c.factor_of.ensures.value c.room-room.ensures c.widest-widest.ensures.value c.span.ensures.value
    (c.unsigned_abs.ensures.value ∙ ap unsigned_abs (result-bits c.power_of_ten-one.result c.power_of_ten-one.type_inv ∙ c.power_of_ten-one.ensures.value)) in
    subst (λ (z : ℤ). FitsSigned w128 z) (sym is) (fits_signed_from_abs w128 (pos (unit_of m o c.args.digits c.args.steps)) (unit-narrow m o c.args.digits c.args.steps c.requires.digits))

pub returns-clause-value : goal.returns-clause-value
returns-clause-value c =
    let m = c.args.self.model.now in
    let o = plain_objective c.args.self.objective in
    let is = unit_is m o c.args.digits c.args.steps _ _ c.factor_of.result c.room-room.result c.span.result c.unsigned_abs.result c.widest-widest.result
    (result-bits c.power_of_ten-one.result c.power_of_ten-one.type_inv ∙ c.power_of_ten-one.ensures.value)
    (result-bits c.from.result c.from.type_inv ∙ c.from.ensures)
    c.factor_of.ensures.value c.room-room.ensures c.widest-widest.ensures.value c.span.ensures.value
    (c.unsigned_abs.ensures.value ∙ ap unsigned_abs (result-bits c.power_of_ten-one.result c.power_of_ten-one.type_inv ∙ c.power_of_ten-one.ensures.value)) in
    ap (λ (z : ℤ). to_z w128 (of_z w128 z)) is ∙ back (pos (unit_of m o c.args.digits c.args.steps)) (unit-narrow m o c.args.digits c.args.steps c.requires.digits)

pub returns-clause-positive : goal.returns-clause-positive
returns-clause-positive c =
    let above = unit-positive c.args.self.model.now (plain_objective c.args.self.objective) c.args.digits c.args.steps in
    subst (λ (z : ℤ). pos 0 <ℤ z) (sym (returns-clause-value c)) (omega (arith, ints, above))

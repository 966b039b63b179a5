use Rattle.std.proofs.Common.{arith, add-one, refl}
use Rattle.mdp_rows.proofs.ClosedRows.Scaling.{divides_there, within_there, wide_there, one_there, targets_there, scaled_all}
use Rattle.mdp_rows.proofs.closing.scale.Goals as goal

pub scaled_value-requires-clause-divides : goal.scaled_value-requires-clause-divides
scaled_value-requires-clause-divides c = divides_there _ c.loop-i.row c.loop-i.i c.args.den c.args.parts c.requires.common c.requires.sum
    (omega (arith, c.loop-i-test.true, c.loop-i.auto.row)) c.loop-i.auto.row c.loop-i.invariant c.index-row-i-in-loop-i.result

pub scaled_value-requires-clause-within : goal.scaled_value-requires-clause-within
scaled_value-requires-clause-within c = within_there _ c.loop-i.row c.loop-i.i c.args.den c.args.parts c.requires.common c.requires.sum (omega (arith, c.loop-i-test.true, c.loop-i.auto.row))
    c.loop-i.auto.row c.loop-i.invariant c.index-row-i-in-loop-i.result

pub returns-in_default-clause-wide : goal.returns-in_default-clause-wide
returns-in_default-clause-wide c = λ e. wide_there _ c.loop-i.row c.loop-i.i c.args.den c.args.parts c.requires.common c.requires.sum (omega (arith, c.loop-i-test.true, c.loop-i.auto.row))
    c.loop-i.auto.row c.loop-i.invariant c.index-row-i-in-loop-i.result (c.in_default.ensures {u = tt}).value

pub returns-in_default-clause-targets : goal.returns-in_default-clause-targets
returns-in_default-clause-targets c = targets_there c.args.row.now c.loop-i.row c.loop-i.i c.loop-i.invariant

pub loop-i-preserved : goal.loop-i-preserved
loop-i-preserved c = rw add-one (one_there _ c.loop-i.row c.loop-i.i c.args.den c.args.parts c.requires.common c.requires.sum (omega (arith, c.loop-i-test.true, c.loop-i.auto.row))
    c.loop-i.auto.row c.loop-i.invariant c.index-row-i.result c.index-row-i-in-loop-i.result _ refl (c.in-Some.ensures {u = tt}).value)

pub returns-clause-scaled : goal.returns-clause-scaled
returns-clause-scaled c = λ e. scaled_all c.args.row.now c.loop-i.row c.loop-i.i (omega (arith, c.loop-i-test.false, c.loop-i.auto.i-end)) c.loop-i.invariant

pub returns-clause-targets : goal.returns-clause-targets
returns-clause-targets c = targets_there c.args.row.now c.loop-i.row c.loop-i.i c.loop-i.invariant

use Rattle.std.proofs.Common.{◌≡◌, ◌≤◌, ◌∙◌, arith}
use Rattle.mdp_spec.specs.Unit.{lcm}
use Rattle.mdp_num.specs.Numeral.{limit}
use Rattle.mdp_rows.proofs.{ClosedRows.Denominators.{past_limit, in_limit}, ClosedRows.Quotients.{multiple_is}}
use Rattle.mdp_rows.proofs.closing.common_multiple.Goals as goal

pub returns-in_err-multiple : goal.returns-in_err-multiple
returns-in_err-multiple c =
    let m = multiple_is c.args.a c.args.b c.den_of.result _ c.in_ok-quotient.quotient c.requires.positive.0 c.ratio_of.ensures (c.in_ok-quotient.was {u = tt}) c.den_of.ensures in
    let h = c.in_err-multiple.ensures {u = tt} in
    rw c.from_residual-in_err-multiple.ensures (past_limit (lcm c.args.a c.args.b) (omega (arith, m, h)))

pub returns-then-multiple-gt-MAX_TERM : goal.returns-then-multiple-gt-MAX_TERM
returns-then-multiple-gt-MAX_TERM c =
    let m = multiple_is c.args.a c.args.b c.den_of.result _ c.in_ok-quotient.quotient c.requires.positive.0 c.ratio_of.ensures (c.in_ok-quotient.was {u = tt}) c.den_of.ensures in
    let h = c.in_ok-multiple.ensures {u = tt} in
    past_limit (lcm c.args.a c.args.b) (omega (arith, m, h))

pub returns-else-multiple-gt-MAX_TERM : goal.returns-else-multiple-gt-MAX_TERM
returns-else-multiple-gt-MAX_TERM c =
    let m = multiple_is c.args.a c.args.b c.den_of.result _ c.in_ok-quotient.quotient c.requires.positive.0 c.ratio_of.ensures (c.in_ok-quotient.was {u = tt}) c.den_of.ensures in
    let e : c.in_ok-multiple.multiple ≡ lcm c.args.a c.args.b = (c.in_ok-multiple.ensures {u = tt}).1 ∙ m in
    let k : lcm c.args.a c.args.b ≤ limit = omega arith in
    rw e (in_limit (lcm c.args.a c.args.b) k)

use Rattle.std.proofs.Common.{◌-◌, ◌*◌, ◌^◌, ◌≤◌, sym, arith}
use Rattle.mdp_num.specs.Numeral.{limit}
use Rattle.mdp_num.proofs.Scale.{past_limit, past_tens, within_limit, scaled-large, scaled-whole}
use Rattle.mdp_num.proofs.numeral.scale.Goals.{then-tens-gt36-via-then-tens-gt36, then-tens-gt36-via-else-tens-gt36+then-d-power_of_ten}
use Rattle.mdp_num.proofs.numeral.scale.Goals as goal

pub returns-then-tens-gt36 : goal.returns-then-tens-gt36
returns-then-tens-gt36 c =
    let d = c.args.d in
    let e = c.args.up - c.args.down in
    sym (scaled-large d c.args.up c.args.down c.if-d-eq0.false (omega arith) (omega arith)
    (elim c.then-tens-gt36.branch [
      | then-tens-gt36-via-then-tens-gt36 w ↦ past_tens d e (omega arith) w.if-tens-gt36.true
      | then-tens-gt36-via-else-tens-gt36+then-d-power_of_ten w ↦ past_limit d e (omega arith) w.if-tens-gt36.false (omega (arith, w.power_of_ten-else-tens-gt36.ensures, w.if-d-power_of_ten.true))
    ]))

pub overflow_mul-result : goal.overflow_mul-result
overflow_mul-result c =
    let e = c.args.up - c.args.down in
    let small : c.args.d * 10 ^ e ≤ limit = within_limit c.args.d e (omega arith) (omega (arith, c.power_of_ten-else-tens-gt36.ensures)) in
    rw c.power_of_ten-2.ensures (omega (arith, small))

pub returns : goal.returns
returns c =
    let e = c.args.up - c.args.down in
    let small : c.args.d * 10 ^ e ≤ limit = within_limit c.args.d e (omega arith) (omega (arith, c.power_of_ten-else-tens-gt36.ensures)) in
    rw c.power_of_ten-2.ensures (sym (scaled-whole c.args.d c.args.up c.args.down c.if-d-eq0.false (omega arith) (omega arith) small))

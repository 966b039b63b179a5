use Rattle.std.proofs.{Common.{◌^◌, ◌≤◌, arith, pos}, lemmas.Int.{ints, fits_signed_from_abs}, Math.Nat.{one-le-pow, pow-le-pow_right}}
use mir.Syntax.{w128}
use Rattle.mdp_horizon.proofs.whole.power_of_ten.Goals as goal

pub pow-requires : goal.pow-requires
pow-requires c =
    let most : 10 ^ c.args.digits ≤ 10 ^ 30 = pow-le-pow_right {n = 10} (omega arith) c.requires in
    fits_signed_from_abs w128 (pos (10 ^ c.args.digits)) (omega arith)

pub returns-clause-positive : goal.returns-clause-positive
returns-clause-positive c = omega (arith, ints, c.pow.ensures, one-le-pow c.args.digits 10 (omega arith))

use Rattle.std.proofs.Common.{◌≡◌, pos, rules}
use Rattle.mdp_elim.proofs.Zeros.{quotient_of_none}
use Rattle.mdp_elim.proofs.sums.quotient.Goals as goal

pub returns-then-sign-eq0 : goal.returns-then-sign-eq0
returns-then-sign-eq0 c =
    let none : c.sign.result ≡ pos 0 = search (rules, c.if-sign-eq0.true) in
    quotient_of_none c.args.dividend.now c.args.divisor.now (c.sign.ensures.zero.0 none)

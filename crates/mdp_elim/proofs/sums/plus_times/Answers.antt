use Rattle.std.proofs.Common.{◌≡◌, pos, rules}
use Rattle.mdp_elim.proofs.Zeros.{plus_none_of}
use Rattle.mdp_elim.proofs.sums.plus_times.Goals as goal

pub returns-then-sign-eq0 : goal.returns-then-sign-eq0
returns-then-sign-eq0 c =
    let none : c.sign.result ≡ pos 0 = search (rules, c.if-sign-eq0.true) in
    plus_none_of c.args.sum.now c.args.times.now c.args.value.now c.sign-in_width.ensures.narrow (c.sign.ensures.zero.0 none)

use Rattle.std.proofs.Common.{sym, rules, to_z-of_z}
use mir.Syntax.{w128}
use mir.Val.{SFits}
use Rattle.mdp_horizon.proofs.Past.{judged_kept, reached_same}
use Rattle.mdp_horizon.proofs.best.judged_quotient.Goals as goal

pub returns-then-not-past : goal.returns-then-not-past
returns-then-not-past c =
    let f : SFits w128 c.in-Some.far = search rules in
    sym (judged_kept c.args.dir c.args.c c.args.leader c.in-Some.far c.args.n c.args.d c.in-Some.is c.requires.positive
    (reached_same c.args.dir c.in-Some.far c.args.n c.args.d _ _ _ (to_z-of_z f) (to_z-of_z c.ranges.n) (to_z-of_z c.ranges.d) (c.is_past-past.ensures c.if-not-past.true)))

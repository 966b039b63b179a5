use Rattle.std.proofs.Common.{drop, ◌∙◌, sym, arith}
use Rattle.mdp_cert.proofs.Runs.{more-next, more-none}
use Rattle.mdp_cert.proofs.write.longest_end.Goals as goal

pub loop-last-preserved : goal.loop-last-preserved
loop-last-preserved g c =
    let n = more-next g.L.Item.Entry.columns (g.L.Lists.entries c.args.entries.now) c.loop-last.last (sym c.is_joined.ensures ∙ c.loop-last-test.true) in
    (omega arith, omega (arith, n.inside, c.requires.states), omega (arith, n.more, c.loop-last.invariant.2))

pub returns : goal.returns
returns g c =
    let none = more-none g.L.Item.Entry.columns (drop c.loop-last.last (g.L.Lists.entries c.args.entries.now)) (sym c.is_joined.ensures ∙ c.loop-last-test.false) in
    omega (arith, none, c.loop-last.invariant.2)

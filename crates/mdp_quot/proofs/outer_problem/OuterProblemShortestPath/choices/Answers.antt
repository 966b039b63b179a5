use Rattle.std.proofs.Common.{length, ap, arith}
use Rattle.mdp_quot.proofs.OuterNodes.{outer-count, outer-choices}
use Rattle.mdp_quot.proofs.outer_problem.OuterProblemShortestPath.choices.Goals as goal

pub exits-requires : goal.exits-requires
exits-requires c = omega (arith, c.requires, outer-count c.args.self.now.dir c.args.self.now.quotient.now c.args.self.now.gains.now)

pub returns : goal.returns
returns c =
    let p = c.args.self.now in
    let e = ap length c.exits.ensures in let n = outer-choices p.dir p.quotient.now p.gains.now c.args.s c.requires in omega (arith, e, n)

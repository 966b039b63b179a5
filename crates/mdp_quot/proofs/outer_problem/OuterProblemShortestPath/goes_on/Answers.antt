use Rattle.std.proofs.Common.{sym}
use Rattle.mdp_quot.proofs.OuterNodes.{outer-goes}
use Rattle.mdp_quot.proofs.outer_problem.OuterProblemShortestPath.goes_on.Goals as goal

pub returns : goal.returns
returns c =
    let p = c.args.self.now in
    sym (outer-goes p.dir p.quotient.now p.gains.now c.args._s c.requires.node c.args.c c.requires.choice)

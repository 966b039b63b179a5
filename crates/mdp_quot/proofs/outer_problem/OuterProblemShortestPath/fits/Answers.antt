use Rattle.std.proofs.Common.{sym}
use Rattle.mdp_quot.proofs.OuterNodes.{outer-fits}
use Rattle.mdp_quot.proofs.outer_problem.OuterProblemShortestPath.fits.Goals as goal

pub returns : goal.returns
returns c =
    let p = c.args.self.now in
    sym (outer-fits p.dir p.quotient.now p.gains.now c.args._s c.requires.node c.args._c c.requires.choice)

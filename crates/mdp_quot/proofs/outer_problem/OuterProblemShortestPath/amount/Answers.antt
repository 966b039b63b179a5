use Rattle.std.proofs.Common.{◌∙◌, sym, ap, arith}
use Rattle.mdp_policy_iteration.specs.Problem.{amount}
use Rattle.mdp_quot.proofs.OuterNodes.{outer-count, outer-stops, outer-leaves, positive}
use Rattle.mdp_quot.proofs.outer_problem.OuterProblemShortestPath.amount.Goals as goal

pub gain-requires : goal.gain-requires
gain-requires c = omega (arith, c.requires.node, outer-count c.args.self.now.dir c.args.self.now.quotient.now c.args.self.now.gains.now)

pub returns-then-c-eq0 : goal.returns-then-c-eq0
returns-then-c-eq0 c =
    let p = c.args.self.now in
    c.gain.ensures
    ∙ sym (ap amount (outer-stops p.dir p.quotient.now p.gains.now c.args.s c.requires.node c.args.c c.requires.choice c.if-c-eq0.true))

pub returns-else-c-eq0 : goal.returns-else-c-eq0
returns-else-c-eq0 c =
    let p = c.args.self.now in
    c.whole.ensures
    ∙ sym (ap amount (outer-leaves p.dir p.quotient.now p.gains.now c.args.s c.requires.node c.args.c c.requires.choice (positive c.args.c c.if-c-eq0.false)).1)

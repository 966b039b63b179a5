use Rattle.std.proofs.Common.{◌∙◌, ◌<◌, sym, subst, arith}
use Rattle.std.specs.List.{All}
use Rattle.mdp_quot.proofs.OuterNodes.{outer-count, outer-row}
use Rattle.mdp_quot.proofs.outer_problem.OuterProblemShortestPath.row.Goals as goal

pub overflow_sub-c : goal.overflow_sub-c
overflow_sub-c c =
    let p = c.args.self.now in
    let w = outer-row p.dir p.quotient.now p.gains.now c.args.s c.requires.node c.args.c c.requires.choice c.requires.goes_on in
    omega (arith, w.0)

pub row-requires-clause-node : goal.row-requires-clause-node
row-requires-clause-node c = omega (arith, c.requires.node, outer-count c.args.self.now.dir c.args.self.now.quotient.now c.args.self.now.gains.now)

pub row-requires-clause-exit : goal.row-requires-clause-exit
row-requires-clause-exit c =
    let p = c.args.self.now in
    (outer-row p.dir p.quotient.now p.gains.now c.args.s c.requires.node c.args.c c.requires.choice c.requires.goes_on).1

pub returns-clause-row : goal.returns-clause-row
returns-clause-row c =
    let p = c.args.self.now in
    c.row.ensures.row
    ∙ sym (outer-row p.dir p.quotient.now p.gains.now c.args.s c.requires.node c.args.c c.requires.choice c.requires.goes_on).2

pub returns-clause-in_range : goal.returns-clause-in_range
returns-clause-in_range c =
    let p = c.args.self.now in
    subst (λ n. All (λ t. t < n) c.row.result.targets.now) (sym (outer-count p.dir p.quotient.now p.gains.now)) c.row.ensures.in_range

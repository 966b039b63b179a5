use Rattle.mdp_discount.proofs.{Nodes.{has-choice}, Reading.{discount-reads}}
use Rattle.mdp_discount.proofs.problem.DiscountedShortestPath.reads.Goals as goal

pub row-requires-clause-state : goal.row-requires-clause-state
row-requires-clause-state c = let x = c.args.self.now in (has-choice x.dir x.model.now x.name x.factor c.args.s c.args.c c.requires.node c.requires.choice).0

pub row-requires-clause-choice : goal.row-requires-clause-choice
row-requires-clause-choice c = let x = c.args.self.now in (has-choice x.dir x.model.now x.name x.factor c.args.s c.args.c c.requires.node c.requires.choice).1

pub returns : goal.returns
returns c =
    let x = c.args.self.now in
    let b = has-choice x.dir x.model.now x.name x.factor c.args.s c.args.c c.requires.node c.requires.choice in
    discount-reads x.dir x.model.now x.name x.factor c.args.s c.args.c c.row.result.targets.now c.row.result.probs.now b.0 b.1 c.row.ensures.in_range c.row.ensures.row

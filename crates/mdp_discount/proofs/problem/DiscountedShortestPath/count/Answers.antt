use Rattle.std.proofs.Common.{arith}
use Rattle.mdp_discount.proofs.Nodes.{node-count}
use Rattle.mdp_discount.proofs.problem.DiscountedShortestPath.count.Goals as goal

pub returns : goal.returns
returns c = let x = c.args.self.now in let n = node-count x.dir x.model.now x.name x.factor in let k = c.states.ensures in omega (arith, n, k)

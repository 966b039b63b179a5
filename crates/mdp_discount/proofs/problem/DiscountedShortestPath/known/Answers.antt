use Rattle.mdp_discount.proofs.Nodes.{discount-known}
use Rattle.mdp_discount.proofs.problem.DiscountedShortestPath.known.Goals as goal

pub returns : goal.returns
returns c = discount-known c.args.self.now.dir c.args.self.now.model.now c.args.self.now.name c.args.self.now.factor c.known.ensures.mdp c.args.self.now.discount

use Rattle.mdp_policy_iteration.proofs.Chain.{chain_rows}
use Rattle.mdp_policy_iteration.proofs.policy_chain.PolicyChainRowsOf.known.Goals as goal

pub returns : goal.returns
returns g c = chain_rows (g.P.ShortestPath.problem c.args.self.now.problem.now) c.args.self.now.policy.now c.known.ensures c.args.self.now.is

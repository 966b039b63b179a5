use Rattle.std.proofs.Common.{◌∙◌, sym}
use Rattle.mdp_policy_iteration.proofs.Chain.{rows-len}
use Rattle.mdp_policy_iteration.proofs.policy_chain.PolicyChainRowsOf.count.Goals as goal

pub returns : goal.returns
returns g c = c.count.ensures ∙ sym (rows-len (g.P.ShortestPath.problem c.args.self.now.problem.now) c.args.self.now.policy.now)

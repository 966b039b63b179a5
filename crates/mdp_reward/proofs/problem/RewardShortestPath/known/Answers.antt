use Rattle.mdp_reward.proofs.Nodes.{reward-known}
use Rattle.mdp_reward.proofs.problem.RewardShortestPath.known.Goals as goal

pub returns : goal.returns
returns c = reward-known c.args.self.now.dir c.args.self.now.model.now c.args.self.now.name c.args.self.now.goals.now c.args.self.now.finite.now c.known.ensures.mdp

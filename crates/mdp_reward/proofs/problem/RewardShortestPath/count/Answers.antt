use Rattle.std.proofs.Common.{◌∙◌, sym}
use Rattle.mdp_reward.proofs.Nodes.{reward-count}
use Rattle.mdp_reward.proofs.problem.RewardShortestPath.count.Goals as goal

pub returns : goal.returns
returns c = c.states.ensures ∙ sym (reward-count c.args.self.now.dir c.args.self.now.model.now c.args.self.now.name c.args.self.now.goals.now c.args.self.now.finite.now)

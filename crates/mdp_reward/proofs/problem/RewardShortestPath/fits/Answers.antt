use Rattle.std.proofs.Common.{sym}
use Rattle.mdp_reward.proofs.Nodes.{reward-fits}
use Rattle.mdp_reward.proofs.problem.RewardShortestPath.fits.Goals as goal

pub returns : goal.returns
returns c =
    sym (reward-fits c.args.self.now.dir c.args.self.now.model.now c.args.self.now.name c.args.self.now.goals.now c.args.self.now.finite.now c.args._s c.requires.node c.args._c c.requires.choice)

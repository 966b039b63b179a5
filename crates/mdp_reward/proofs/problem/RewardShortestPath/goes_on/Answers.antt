use Rattle.std.proofs.Common.{◌∙◌, sym, arith}
use Rattle.mdp_reward.proofs.Nodes.{reward-count, reward-goes}
use Rattle.mdp_reward.proofs.problem.RewardShortestPath.goes_on.Goals as goal

pub decides-requires : goal.decides-requires
decides-requires c = let n = reward-count c.args.self.now.dir c.args.self.now.model.now c.args.self.now.name c.args.self.now.goals.now c.args.self.now.finite.now in omega (arith, c.requires.node)

pub returns : goal.returns
returns c =
    c.decides.ensures ∙ sym (reward-goes c.args.self.now.dir c.args.self.now.model.now c.args.self.now.name c.args.self.now.goals.now c.args.self.now.finite.now c.args.s c.requires.node
    c.args._c c.requires.choice)

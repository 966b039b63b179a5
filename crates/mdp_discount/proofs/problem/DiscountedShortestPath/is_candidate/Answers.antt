use Rattle.std.proofs.Common.{sym, ap}
use Rattle.mdp_policy_iteration.specs.Problem.{Choice}
use Rattle.mdp_discount.proofs.Nodes.{has-choice, state-choice}
use Rattle.mdp_discount.proofs.problem.DiscountedShortestPath.is_candidate.Goals as goal

pub returns : goal.returns
returns c =
    let x = c.args.self.now in
    let b = has-choice x.dir x.model.now x.name x.factor c.args._s c.args._c c.requires.node c.requires.choice in
    sym (ap Choice.candidate (state-choice x.dir x.model.now x.name x.factor c.args._s c.args._c b.0 b.1))

use Rattle.std.proofs.Common.{◌<◌, sym, subst, arith}
use Rattle.std.specs.List.{All}
use Rattle.mdp_spec.specs.{Mdp.{choice_at, row_at}, Unit.{reward_of}}
use Rattle.mdp_policy_iteration.proofs.Reading.{reads-lent}
use Rattle.mdp_reward.specs.Problem.{may_take, reward_problem}
use Rattle.mdp_reward.proofs.Nodes.{reward-count, reward-choice}
use Rattle.mdp_reward.proofs.problem.RewardShortestPath.reads.Goals as goal

pub row-requires-clause-state : goal.row-requires-clause-state
row-requires-clause-state c =
    let x = c.args.self.now in let n = reward-count x.dir x.model.now x.name x.goals.now x.finite.now in omega (arith, c.requires.node)

pub row-requires-clause-choice : goal.row-requires-clause-choice
row-requires-clause-choice c =
    let x = c.args.self.now in (reward-choice x.dir x.model.now x.name x.goals.now x.finite.now c.args.s c.args.c c.requires.node c.requires.choice).0

pub returns : goal.returns
returns c =
    let x = c.args.self.now in
    let m = x.model.now in
    let s = c.args.s in
    let ts = c.row.result.targets.now in
    reads-lent (reward_problem x.dir m x.name x.goals.now x.finite.now) s c.args.c ts
    (subst (λ n. All (λ t. t < n) ts) (sym (reward-count x.dir m x.name x.goals.now x.finite.now)) c.row.ensures.in_range)
    (may_take x.dir x.finite.now (row_at m s c.args.c)) (reward_of (choice_at m s c.args.c) x.name) (row_at m s c.args.c) c.row.result.probs.now
    (reward-choice x.dir m x.name x.goals.now x.finite.now s c.args.c c.requires.node c.requires.choice).1 c.row.ensures.row

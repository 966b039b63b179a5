use Rattle.std.proofs.Common.{◌∙◌, sym, ap, arith}
use Rattle.mdp_spec.specs.Mdp.{row_at}
use Rattle.mdp_rows.specs.declared.dir.Dir.{Dir}
use Rattle.mdp_reward.specs.Problem.{may_take}
use Rattle.mdp_reward.proofs.Nodes.{reward-count, reward-choice, reward-candidate}
use Rattle.mdp_reward.proofs.problem.RewardShortestPath.is_candidate.Goals as goal

pub each_target-requires-clause-state : goal.each_target-requires-clause-state
each_target-requires-clause-state c =
    let n = reward-count c.args.self.now.dir c.args.self.now.model.now c.args.self.now.name c.args.self.now.goals.now c.args.self.now.finite.now in omega (arith, c.requires.node)

pub each_target-requires-clause-choice : goal.each_target-requires-clause-choice
each_target-requires-clause-choice c =
    (reward-choice c.args.self.now.dir c.args.self.now.model.now c.args.self.now.name c.args.self.now.goals.now c.args.self.now.finite.now c.args.s c.args.c c.requires.node c.requires.choice).0

pub returns-in-Max : goal.returns-in-Max
returns-in-Max c =
    sym (reward-candidate c.args.self.now.dir c.args.self.now.model.now c.args.self.now.name c.args.self.now.goals.now c.args.self.now.finite.now c.args.s c.requires.node c.args.c c.requires.choice
    ∙ ap (λ (d : Dir). may_take d c.args.self.now.finite.now (row_at c.args.self.now.model.now c.args.s c.args.c)) c.in-Max.is)

pub returns-in-Min : goal.returns-in-Min
returns-in-Min c =
    c.each_target.ensures
    ∙ sym (reward-candidate c.args.self.now.dir c.args.self.now.model.now c.args.self.now.name c.args.self.now.goals.now c.args.self.now.finite.now c.args.s c.requires.node c.args.c c.requires.choice
    ∙ ap (λ (d : Dir). may_take d c.args.self.now.finite.now (row_at c.args.self.now.model.now c.args.s c.args.c)) c.in-Min.is)

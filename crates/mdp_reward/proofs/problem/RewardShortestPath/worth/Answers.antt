use Rattle.std.proofs.Common.{◌∙◌, ◌<◌, List, sym, subst, ap₂, arith}
use Rattle.std.specs.List.{All}
use Rattle.mdp_math.specs.Rational.{ℚ}
use Rattle.mdp_spec.specs.{Mdp.{Entry}, Written.{written_sum}}
use Rattle.mdp_reward.proofs.Nodes.{reward-count, reward-choice, reward-written}
use Rattle.mdp_reward.proofs.problem.RewardShortestPath.worth.Goals as goal

pub row-row-requires-clause-state : goal.row-row-requires-clause-state
row-row-requires-clause-state c =
    let n = reward-count c.args.self.now.dir c.args.self.now.model.now c.args.self.now.name c.args.self.now.goals.now c.args.self.now.finite.now in omega (arith, c.requires.node)

pub row-row-requires-clause-choice : goal.row-row-requires-clause-choice
row-row-requires-clause-choice c =
    (reward-choice c.args.self.now.dir c.args.self.now.model.now c.args.self.now.name c.args.self.now.goals.now c.args.self.now.finite.now c.args.s c.args.c c.requires.node c.requires.choice).0

pub reward-requires-clause-state : goal.reward-requires-clause-state
reward-requires-clause-state c =
    let n = reward-count c.args.self.now.dir c.args.self.now.model.now c.args.self.now.name c.args.self.now.goals.now c.args.self.now.finite.now in omega (arith, c.requires.node)

pub reward-requires-clause-choice : goal.reward-requires-clause-choice
reward-requires-clause-choice c =
    (reward-choice c.args.self.now.dir c.args.self.now.model.now c.args.self.now.name c.args.self.now.goals.now c.args.self.now.finite.now c.args.s c.args.c c.requires.node c.requires.choice).0

pub sum-requires : goal.sum-requires
sum-requires c =
    subst (λ n. All (λ t. t < n) c.row-row.result.targets.now)
    (sym (c.requires.values ∙ reward-count c.args.self.now.dir c.args.self.now.model.now c.args.self.now.name c.args.self.now.goals.now c.args.self.now.finite.now)) c.row-row.ensures.in_range

pub returns : goal.returns
returns c =
    c.sum.ensures
    ∙ ap₂ (λ (v : ℚ) (r : List Entry). written_sum c.args.values.now v r) c.reward.ensures c.row-row.ensures.row
    ∙ sym (reward-written c.args.self.now.dir c.args.self.now.model.now c.args.self.now.name c.args.self.now.goals.now c.args.self.now.finite.now c.args.s c.requires.node c.args.c
    c.args.values.now c.requires.choice)

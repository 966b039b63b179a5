use Rattle.std.proofs.Common.{◌∙◌, Bool, sym, ap, arith, if◌then◌else◌, pos}
use Rattle.mdp_math.specs.Rational.{of_int}
use Rattle.mdp_reward.proofs.Nodes.{earned, reward-count, reward-take, reward-amount}
use Rattle.mdp_reward.proofs.problem.RewardShortestPath.amount.Goals as goal

pub decides-requires : goal.decides-requires
decides-requires c = let n = reward-count c.args.self.now.dir c.args.self.now.model.now c.args.self.now.name c.args.self.now.goals.now c.args.self.now.finite.now in omega (arith, c.requires.node)

pub reward-requires-clause-choice : goal.reward-requires-clause-choice
reward-requires-clause-choice c =
    reward-take c.args.self.now.dir c.args.self.now.model.now c.args.self.now.name c.args.self.now.goals.now c.args.self.now.finite.now c.args.s c.requires.node c.args.c c.requires.choice
    (sym c.decides.ensures ∙ c.if-decides.true)

pub returns-then-decides : goal.returns-then-decides
returns-then-decides c =
    c.reward.ensures
    ∙ sym (reward-amount c.args.self.now.dir c.args.self.now.model.now c.args.self.now.name c.args.self.now.goals.now c.args.self.now.finite.now c.args.s c.requires.node c.args.c c.requires.choice
    ∙ ap (λ (b : Bool). if b then earned c.args.self.now.dir c.args.self.now.model.now c.args.self.now.name c.args.self.now.finite.now c.args.s c.args.c else of_int (pos 0))
    (sym c.decides.ensures ∙ c.if-decides.true))

pub returns-else-decides : goal.returns-else-decides
returns-else-decides c =
    c.whole.ensures
    ∙ sym (reward-amount c.args.self.now.dir c.args.self.now.model.now c.args.self.now.name c.args.self.now.goals.now c.args.self.now.finite.now c.args.s c.requires.node c.args.c c.requires.choice
    ∙ ap (λ (b : Bool). if b then earned c.args.self.now.dir c.args.self.now.model.now c.args.self.now.name c.args.self.now.finite.now c.args.s c.args.c else of_int (pos 0))
    (sym c.decides.ensures ∙ c.if-decides.false))

pub reward-requires-clause-state : goal.reward-requires-clause-state
reward-requires-clause-state c =
    let n = reward-count c.args.self.now.dir c.args.self.now.model.now c.args.self.now.name c.args.self.now.goals.now c.args.self.now.finite.now in omega (arith, c.requires.node)

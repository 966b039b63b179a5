use Rattle.std.proofs.Common.{◌∙◌, Bool, length, sym, ap, arith, if◌then◌else◌}
use Rattle.mdp_spec.specs.Mdp.{choices_at}
use Rattle.mdp_reward.proofs.Nodes.{reward-count, reward-choices}
use Rattle.mdp_reward.proofs.problem.RewardShortestPath.choices.Goals as goal

pub decides-requires : goal.decides-requires
decides-requires c = let n = reward-count c.args.self.now.dir c.args.self.now.model.now c.args.self.now.name c.args.self.now.goals.now c.args.self.now.finite.now in omega (arith, c.requires)

pub returns-then-decides : goal.returns-then-decides
returns-then-decides c =
    c.choices.ensures
    ∙ sym (reward-choices c.args.self.now.dir c.args.self.now.model.now c.args.self.now.name c.args.self.now.goals.now c.args.self.now.finite.now c.args.s c.requires
    ∙ ap (λ (b : Bool). if b then length (choices_at c.args.self.now.model.now c.args.s) else 0) (sym c.decides.ensures ∙ c.if-decides.true))

pub returns-else-decides : goal.returns-else-decides
returns-else-decides c =
    sym (reward-choices c.args.self.now.dir c.args.self.now.model.now c.args.self.now.name c.args.self.now.goals.now c.args.self.now.finite.now c.args.s c.requires
    ∙ ap (λ (b : Bool). if b then length (choices_at c.args.self.now.model.now c.args.s) else 0) (sym c.decides.ensures ∙ c.if-decides.false))

pub choices-requires : goal.choices-requires
choices-requires c =
    let n = reward-count c.args.self.now.dir c.args.self.now.model.now c.args.self.now.name c.args.self.now.goals.now c.args.self.now.finite.now in omega (arith, c.requires)

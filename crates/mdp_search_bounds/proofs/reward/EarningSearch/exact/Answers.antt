use Rattle.std.proofs.Common.{◌≡◌, ◌∙◌, List, Option, length, ap, subst, sym}
use Rattle.mdp_math.specs.Rational.{ℚ}
use Rattle.mdp_farkas.specs.Reward.{IsReward}
use Rattle.mdp_bounds.proofs.RewardExact.{reward_of_exact}
use Rattle.mdp_search_bounds.proofs.Nearness.{rewards_near_each}
use Rattle.mdp_search_bounds.proofs.reward.EarningSearch.exact.Goals as goal

pub returns-in-Ok-clause-near : goal.returns-in-Ok-clause-near
returns-in-Ok-clause-near c digits =
    rewards_near_each digits c.args.self.now.model.now c.in_ok-lower-in-Ok.lower.items c.in-Ok.answer.values.items
    (sym (c.in_ok-lower-in-Ok.ensures {u = tt} ∙ c.deref.ensures.value))

pub returns-in-Ok-clause-held : goal.returns-in-Ok-clause-held
returns-in-Ok-clause-held c refused =
    let m = c.args.self.now.model.now in
    let answer = c.in-Ok.answer in
    let same : c.in_ok-lower-in-Ok.lower.items ≡ answer.values.items = c.in_ok-lower-in-Ok.ensures {u = tt} ∙ c.deref.ensures.value in
    let each = (c.in-Ok.ensures {u = tt}).each in
    absurd (refused (record {
      rules = reward_of_exact c.args.self.now.dir m c.args.self.now.name c.args.self.now.goals.now c.in_ok-lower-in-Ok.lower.items answer.values.items answer.choices.items answer.ranks.items (sym same)
          (subst (λ (v : List (Option ℚ)). IsReward c.args.self.now.dir m c.args.self.now.name c.args.self.now.goals.now v answer.choices.items answer.ranks.items) (sym same)
          (c.in-Ok.ensures {u = tt}).rules);
      sizes = record { lower = ap length same ∙ each.values; upper = each.values; choices = each.choices; ranks = each.ranks };
    }))

use Rattle.std.proofs.Common.{◌⊎◌, Bool, List, sym, subst}
use Rattle.mdp_search_bounds.specs.{Near.{AreRewardsNear}, Wide.{IsRewardWide}}
use Rattle.mdp_command_bounds_search.proofs.Printing.{reward_bounds}
use Rattle.mdp_command_bounds_search.proofs.bounding.bounds_of_reward.Goals as goal

pub returns-in-Ok-bounds_reward-clause-found : goal.returns-in-Ok-bounds_reward-clause-found
returns-in-Ok-bounds_reward-clause-found c =
    let b = c.in-Ok-bounds_reward.bounds in
    let e = c.in-Ok-bounds_reward.ensures in
    reward_bounds c.args.dir c.args.label.now c.args.model.now c.in-Some-label.place c.known.ensures.model.labels (sym c.in-Some-label.ensures) c.args.name.now c.in-Some.reward
    c.known.ensures.model.names.each (sym c.in-Some.ensures) c.in-Ok.goals b.lower.items b.upper.items b.choices.items b.ranks.items c.in-Ok.ensures e.rules e.lower e.upper
    e.choices e.ranks

pub returns-in-Ok-bounds_reward-clause-near : goal.returns-in-Ok-bounds_reward-clause-near
returns-in-Ok-bounds_reward-clause-near c =
    let m = c.args.model.now in
    let r = c.in-Some.reward in
    let b = c.in-Ok-bounds_reward.bounds in
    let near = c.in-Ok-bounds_reward.ensures.near in
    (r, c.in-Some-label.place, sym c.in-Some.ensures, sym c.in-Some-label.ensures, subst (λ (g : List Bool). AreRewardsNear c.args.digits m b.lower.items b.upper.items ⊎ IsRewardWide c.args.dir m r g) c.in-Ok.ensures near)

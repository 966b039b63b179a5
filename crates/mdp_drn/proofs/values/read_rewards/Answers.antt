use Rattle.std.proofs.{Common.{sym, ◌∙◌, arith}, lemmas.Grind.{common_steps}}
use Rattle.mdp_drn.proofs.LinesRead.RewardsFrom.{count-read}
use Rattle.mdp_drn.specs.Values.{rewards_in}
use Rattle.mdp_drn.proofs.values.read_rewards.Goals as goal

pub returns-clause-count : goal.returns-clause-count
returns-clause-count c =
    count-read c.deref.result.now c.args.models c.push_rewards.result c.push_rewards.new.rewards.items (c.deref.ensures.len ∙ sym c.len.ensures ∙ c.if-len-models.false) c.push_rewards.ensures

pub returns-then-len-models-clause-rewards : goal.returns-then-len-models-clause-rewards
unfolding rewards_in
returns-then-len-models-clause-rewards c = grind (arith, common_steps)

pub returns-then-is_empty-clause-rewards : goal.returns-then-is_empty-clause-rewards
unfolding rewards_in
returns-then-is_empty-clause-rewards c = grind (arith, common_steps)

pub returns-clause-rewards : goal.returns-clause-rewards
unfolding rewards_in
returns-clause-rewards c = grind (arith, common_steps)

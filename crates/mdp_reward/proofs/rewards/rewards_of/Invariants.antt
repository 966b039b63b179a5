use Rattle.std.proofs.Common.{◌≡◌, map}
use Rattle.std.specs.List.{range_with_len}
use Rattle.mdp_reward.specs.Query.{reward_by}
use Rattle.mdp_reward.proofs.rewards.rewards_of.Given as goal

abbrev pub invariant-loop-s : goal.invariant-loop-s
invariant-loop-s l = l.rewards.items ≡ map (reward_by l.finite l.values) (range_with_len 0 l.s)

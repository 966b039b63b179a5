use Rattle.mdp_policy.proofs.{Chains.{is_chain}, Trees.{trees_are_own}}
use Rattle.mdp_policy.proofs.Owned.{reach_is_own, reach_bounds_are_own, mean_is_own, mean_bounds_are_own, bounded_is_own, discount_is_own}
use Rattle.mdp_policy.proofs.Stepped.{total_is_own, step_bounds_are_own, discount_bounds_are_own}
use Rattle.mdp_policy.proofs.Rewards.{reward_is_own, reward_bounds_are_own}
use Rattle.mdp_policy.proofs.chain_laws.chain_law.Goals as goal

pub returns : goal.returns
returns c = record {
  chain = is_chain;
  trees = trees_are_own;
  reach = reach_is_own;
  reach_bounds = reach_bounds_are_own;
  reward = reward_is_own;
  reward_bounds = reward_bounds_are_own;
  mean = mean_is_own;
  mean_bounds = mean_bounds_are_own;
  bounded = bounded_is_own;
  total = total_is_own;
  step_bounds = step_bounds_are_own;
  discount = discount_is_own;
  discount_bounds = discount_bounds_are_own;
}

-- Of bounds that are true: the lower value is at most the upper one, exact values lie between, and bounds that are the same are exact.
use Rattle.std.proofs.Common.{inl, inr}
use Rattle.mdp_spec.proofs.Reach.{reach_max_at_most, reach_min_at_most, reach_max_lies, reach_min_lies, reach_max_exact, reach_min_exact}
use Rattle.mdp_spec.proofs.Reward.{reward_max_exact, reward_min_exact}
use Rattle.mdp_spec.proofs.Mean.{mean_max_exact, mean_min_exact}
use Rattle.mdp_spec.proofs.Unique.{reward_max_at_most, reward_min_at_most, reward_max_lies, reward_min_lies, mean_max_at_most, mean_min_at_most, mean_max_lies, mean_min_lies}
use Rattle.mdp_bounds.specs.Order.{ReachIsOrdered, ReachLiesBetween, SameReachIsExact, RewardIsOrdered, RewardLiesBetween, SameRewardIsExact, MeanIsOrdered, MeanLiesBetween, SameMeanIsExact}

pub reach_is_ordered : ReachIsOrdered
reach_is_ordered m goals lower upper policy known (inl r) = λ s h. reach_max_at_most m goals known lower upper lower upper policy policy s r r h
reach_is_ordered m goals lower upper policy known (inr r) = λ s h. reach_min_at_most m goals known lower upper lower upper policy policy s r r h

pub reach_lies_between : ReachLiesBetween
reach_lies_between m goals lower upper z policy best known (inl r) =
    (λ s h. (reach_max_lies m goals known lower upper z policy best s r.0 r.1 h).0, λ s h. (reach_max_lies m goals known lower upper z policy best s r.0 r.1 h).1)
reach_lies_between m goals lower upper z policy best known (inr r) =
    (λ s h. (reach_min_lies m goals known lower upper z policy best s r.0 r.1 h).0, λ s h. (reach_min_lies m goals known lower upper z policy best s r.0 r.1 h).1)

pub same_reach_is_exact : SameReachIsExact
same_reach_is_exact m goals z policy = (reach_max_exact m goals z policy, reach_min_exact m goals z policy)

pub reward_is_ordered : RewardIsOrdered
reward_is_ordered m r goals lower upper policy known (inl b) = λ s h. reward_max_at_most m r goals known lower upper lower upper policy policy s b b h
reward_is_ordered m r goals lower upper policy known (inr b) = λ s h. reward_min_at_most m r goals known lower upper lower upper policy policy b b s h

pub reward_lies_between : RewardLiesBetween
reward_lies_between m r goals lower upper v policy best known (inl b) =
    (λ s h. (reward_max_lies m r goals known lower upper v policy best s b.0 b.1 h).0, λ s h. (reward_max_lies m r goals known lower upper v policy best s b.0 b.1 h).1)
reward_lies_between m r goals lower upper v policy best known (inr b) =
    (λ s h. (reward_min_lies m r goals known lower upper v policy best s b.0 b.1 h).0, λ s h. (reward_min_lies m r goals known lower upper v policy best s b.0 b.1 h).1)

pub same_reward_is_exact : SameRewardIsExact
same_reward_is_exact m r goals v policy = (reward_max_exact m r goals v policy, reward_min_exact m r goals v policy)

pub mean_is_ordered : MeanIsOrdered
mean_is_ordered m r lower upper spread policy known (inl b) = mean_max_at_most m r lower upper lower upper spread spread policy policy known b b
mean_is_ordered m r lower upper spread policy known (inr b) = mean_min_at_most m r lower upper lower upper spread spread policy policy known b b

pub mean_lies_between : MeanLiesBetween
mean_lies_between m r lower upper g spread wider policy best known (inl b) =
    (λ s h. (mean_max_lies m r lower upper g spread wider policy best known b.0 b.1 s h).0, λ s h. (mean_max_lies m r lower upper g spread wider policy best known b.0 b.1 s h).1)
mean_lies_between m r lower upper g spread wider policy best known (inr b) =
    (λ s h. (mean_min_lies m r lower upper g spread wider policy best known b.0 b.1 s h).0, λ s h. (mean_min_lies m r lower upper g spread wider policy best known b.0 b.1 s h).1)

pub same_mean_is_exact : SameMeanIsExact
same_mean_is_exact m r g spread policy known = (mean_max_exact m r g spread policy known, mean_min_exact m r g spread policy known)

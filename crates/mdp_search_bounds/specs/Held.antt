-- Certificates of bounds to which the rules say yes.
use Rattle.std.specs.Prelude.{◌≡◌, ℕ, Bool, List, length}
use Rattle.mdp_spec.specs.Mdp.{Mdp, states_of}
use Rattle.mdp_rows.specs.declared.dir.Dir.{Dir}
use Rattle.mdp_bounds.specs.{Reach.{IsReachBounds}, Reward.{IsRewardBounds}, Mean.{IsMeanBounds}}
use Rattle.mdp_claims.specs.{declared.bounds.ReachBoundsCert.{ReachBoundsCert}, declared.bounds.RewardBoundsCert.{RewardBoundsCert}}
use Rattle.mdp_claims.specs.declared.bounds.MeanBoundsCert.{MeanBoundsCert}

-- ---- reaching a goal

-- one item of each list for each state
pub record HasReachSizes (m : Mdp) (cert : ReachBoundsCert) : Type 0 where
  pub lower : length cert.lower.items ≡ states_of m
  pub upper : length cert.upper.items ≡ states_of m
  pub choices : length cert.choices.items ≡ states_of m
  pub ranks : length cert.ranks.items ≡ states_of m

-- such a certificate that meets the rules
pub record IsHeldReach (dir : Dir) (m : Mdp) (goals : List Bool) (cert : ReachBoundsCert) : Type 0 where
  pub rules : IsReachBounds dir m goals cert.lower.items cert.upper.items cert.choices.items cert.ranks.items
  pub sizes : HasReachSizes m cert

-- ---- the reward of name r until a goal

pub record HasRewardSizes (m : Mdp) (cert : RewardBoundsCert) : Type 0 where
  pub lower : length cert.lower.items ≡ states_of m
  pub upper : length cert.upper.items ≡ states_of m
  pub choices : length cert.choices.items ≡ states_of m
  pub ranks : length cert.ranks.items ≡ states_of m

pub record IsHeldReward (dir : Dir) (m : Mdp) (r : ℕ) (goals : List Bool) (cert : RewardBoundsCert) : Type 0 where
  pub rules : IsRewardBounds dir m r goals cert.lower.items cert.upper.items cert.choices.items cert.ranks.items
  pub sizes : HasRewardSizes m cert

-- ---- the mean payoff of name r

pub record HasMeanSizes (m : Mdp) (cert : MeanBoundsCert) : Type 0 where
  pub lower : length cert.lower.items ≡ states_of m
  pub upper : length cert.upper.items ≡ states_of m
  pub bound : length cert.bound.items ≡ states_of m
  pub bias : length cert.bias.items ≡ states_of m
  pub choices : length cert.choices.items ≡ states_of m

pub record IsHeldMean (dir : Dir) (m : Mdp) (r : ℕ) (cert : MeanBoundsCert) : Type 0 where
  pub rules : IsMeanBounds dir m r cert.lower.items cert.upper.items cert.bound.items cert.bias.items cert.spread cert.choices.items
  pub sizes : HasMeanSizes m cert

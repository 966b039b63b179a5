-- The bounds that say nothing meet the rules.
use Rattle.std.proofs.Common.{◌≡◌, ℕ, ◌<◌, Bool, List, length, Option, refl, sym}
use Rattle.mdp_math.specs.Rational.{ℚ}
use Rattle.mdp_spec.specs.{Mdp.{Mdp, states_of}, Row.{IsMdp}}
use Rattle.mdp_rows.specs.declared.dir.Dir.{Dir}
use Rattle.mdp_claims.specs.declared.verdict.Verdict.TheVariants.{Yes}
use Rattle.mdp_bounds.specs.{Reward.{IsTrivialReward, IsRewardBounds}, Mean.{IsTrivialMean, IsMeanBounds}}
use Rattle.mdp_bounds.proofs.{RewardRules.{reward_bounds_rules}, MeanRules.{mean_bounds_rules}}
use Rattle.mdp_bounds.proofs.RewardTrivial as reward
use Rattle.mdp_bounds.proofs.MeanTrivial as mean

pub reward-accepted : (dir : Dir) (m : Mdp) (r : ℕ) (goals : List Bool) (lower upper : List (Option ℚ)) (policy ranks : List ℕ) → IsMdp m → r < length m.names
    → length lower ≡ states_of m → length upper ≡ states_of m → IsTrivialReward dir m r goals lower upper policy ranks → IsRewardBounds dir m r goals lower upper policy ranks
reward-accepted dir m r goals lower upper policy ranks model named low high t =
    (reward_bounds_rules m model r goals lower upper policy ranks dir Yes named low high t.takes.one_each (sym (reward.trivial_yes dir m model r goals lower upper policy ranks t))).0 refl

pub mean-accepted : (m : Mdp) (r : ℕ) (lower upper bound bias : List ℚ) (spread : ℚ) (policy : List ℕ) → IsMdp m → r < length m.names → length bound ≡ states_of m
    → length bias ≡ states_of m → IsTrivialMean m r lower upper bound bias spread policy → (dir : Dir) → IsMeanBounds dir m r lower upper bound bias spread policy
mean-accepted m r lower upper bound bias spread policy model named a b t dir =
    (mean_bounds_rules m model r lower upper bound bias spread policy dir Yes named a b t.takes.one_each (sym (mean.trivial_yes m model r lower upper bound bias spread policy t a b dir))).0 refl

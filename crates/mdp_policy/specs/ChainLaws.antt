-- Laws of the chain of a policy: what its trees have, and what is computed of it.
use Rattle.std.specs.Prelude.{◌⊎◌, ℕ, Bool, List, Option}
use Rattle.mdp_math.specs.Rational.{ℚ}
use Rattle.mdp_spec.specs.{Mdp.{Mdp}, Row.{IsMdp}, Tree.{IsPolicy}, Bounds.{ReachMax, ReachMin, RewardMax, RewardMin, MeanMax, MeanMin}}
use Rattle.mdp_spec.specs.Between.{ReachMaxBetween, ReachMinBetween, RewardMaxBetween, RewardMinBetween, MeanMaxBetween, MeanMinBetween}
use Rattle.mdp_rows.specs.declared.dir.Dir.{Dir}
use Rattle.mdp_horizon.specs.{Bounds.{BoundedMax, BoundedMin, TotalMax, TotalMin}, Between.{MaxBetween, MinBetween}, Objective.{Objective}}
use Rattle.mdp_discount_rules.specs.{Bounds.{DiscountBound}, Rules.{IsFactor}}
use Rattle.mdp_discount_rules.specs.Between.{DiscountBetween}
use Rattle.mdp_policy.specs.{Chain.{chain_of}, Own.{IsChainOf, AreOwn, OwnReach, OwnReward, OwnMean, OwnBounded, OwnTotal, OwnWithin, OwnDiscount, OwnDiscountBetween}}

-- ---- the chain itself

abbrev pub KeepsChoices : Type 0
KeepsChoices = (m : Mdp) (policy : List ℕ) → IsPolicy m policy → IsChainOf m policy (chain_of m policy)

-- ---- its trees: each has what the policy's own tree has on the model

abbrev pub TreesAreOwn : Type 0
TreesAreOwn = (m : Mdp) (policy : List ℕ) → IsMdp m → IsPolicy m policy → AreOwn m policy (chain_of m policy)

-- ---- what is computed of it: the greatest and the least values of the chain, whatever policy shows them, are the policy's own on the model

abbrev pub ReachIsOwn : Type 0
ReachIsOwn =
    (m : Mdp) (policy other : List ℕ) (goals : List Bool) (z : List ℚ) → IsMdp m → IsPolicy m policy
    → ReachMax (chain_of m policy) goals z other ⊎ ReachMin (chain_of m policy) goals z other → OwnReach m goals policy z z

abbrev pub ReachBoundsAreOwn : Type 0
ReachBoundsAreOwn =
    (m : Mdp) (policy other : List ℕ) (goals : List Bool) (lower upper : List ℚ) → IsMdp m → IsPolicy m policy
    → ReachMaxBetween (chain_of m policy) goals lower upper other ⊎ ReachMinBetween (chain_of m policy) goals lower upper other → OwnReach m goals policy lower upper

abbrev pub RewardIsOwn : Type 0
RewardIsOwn =
    (m : Mdp) (policy other : List ℕ) (r : ℕ) (goals : List Bool) (v : List (Option ℚ)) → IsMdp m → IsPolicy m policy
    → RewardMax (chain_of m policy) r goals other v ⊎ RewardMin (chain_of m policy) r goals other v → OwnReward m r goals policy v v

abbrev pub RewardBoundsAreOwn : Type 0
RewardBoundsAreOwn =
    (m : Mdp) (policy other : List ℕ) (r : ℕ) (goals : List Bool) (lower upper : List (Option ℚ)) → IsMdp m → IsPolicy m policy
    → RewardMaxBetween (chain_of m policy) r goals other lower upper ⊎ RewardMinBetween (chain_of m policy) r goals other lower upper → OwnReward m r goals policy lower upper

abbrev pub MeanIsOwn : Type 0
MeanIsOwn =
    (m : Mdp) (policy other : List ℕ) (r : ℕ) (g : List ℚ) (spread : ℚ) → IsMdp m → IsPolicy m policy
    → MeanMax (chain_of m policy) r g spread other ⊎ MeanMin (chain_of m policy) r g spread other → OwnMean m r policy g g spread

abbrev pub MeanBoundsAreOwn : Type 0
MeanBoundsAreOwn =
    (m : Mdp) (policy other : List ℕ) (r : ℕ) (lower upper : List ℚ) (spread : ℚ) → IsMdp m → IsPolicy m policy
    → MeanMaxBetween (chain_of m policy) r lower upper spread other ⊎ MeanMinBetween (chain_of m policy) r lower upper spread other → OwnMean m r policy lower upper spread

abbrev pub BoundedIsOwn : Type 0
BoundedIsOwn =
    (m : Mdp) (policy : List ℕ) (stay goals : List Bool) (n : ℕ) (z : List ℚ) (table : List (List ℕ)) → IsMdp m → IsPolicy m policy
    → BoundedMax (chain_of m policy) stay goals n z table ⊎ BoundedMin (chain_of m policy) stay goals n z table → OwnBounded m stay goals policy n z

abbrev pub TotalIsOwn : Type 0
TotalIsOwn =
    (m : Mdp) (policy : List ℕ) (r n : ℕ) (z : List ℚ) (table : List (List ℕ)) → IsMdp m → IsPolicy m policy
    → TotalMax (chain_of m policy) r n z table ⊎ TotalMin (chain_of m policy) r n z table → OwnTotal m r policy n z

abbrev pub StepBoundsAreOwn : Type 0
StepBoundsAreOwn =
    (m : Mdp) (policy : List ℕ) (o : Objective) (n : ℕ) (lower upper : List (Option ℚ)) (table : List (List ℕ)) → IsMdp m → IsPolicy m policy
    → MaxBetween (chain_of m policy) o n lower upper table ⊎ MinBetween (chain_of m policy) o n lower upper table → OwnWithin m o policy n lower upper

abbrev pub DiscountIsOwn : Type 0
DiscountIsOwn =
    (dir : Dir) (m : Mdp) (policy other : List ℕ) (r : ℕ) (f : ℚ) (v : List ℚ) (remainder : ℚ) → IsMdp m → IsPolicy m policy → IsFactor f
    → DiscountBound dir (chain_of m policy) r f v remainder other → OwnDiscount m r f policy v remainder

abbrev pub DiscountBoundsAreOwn : Type 0
DiscountBoundsAreOwn =
    (dir : Dir) (m : Mdp) (policy other : List ℕ) (r : ℕ) (f : ℚ) (lower upper : List (Option ℚ)) (remainder : ℚ) → IsMdp m → IsPolicy m policy → IsFactor f
    → DiscountBetween dir (chain_of m policy) r f lower upper remainder other → OwnDiscountBetween m r f policy lower upper remainder

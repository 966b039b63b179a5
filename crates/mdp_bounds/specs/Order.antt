-- What a lower and an upper value for each state say of each other and of exact values, by their meaning alone: the lower one is at most the
-- upper one, the exact value lies between the two, and where both lists are the same, they are exact.
use Rattle.std.specs.Prelude.{ℕ, ◌<◌, ◌⊎◌, Bool, List, Option}
use Rattle.mdp_math.specs.Rational.{ℚ, ◌≤ℚ◌}
use Rattle.mdp_spec.specs.{Mdp.{Mdp, states_of, value_at}, Row.{IsMdp}, Bounds.{reward_at, ReachMax, ReachMin, RewardMax, RewardMin, MeanMax, MeanMin}}
use Rattle.mdp_spec.specs.Between.{AtMost, ReachMaxBetween, ReachMinBetween, RewardMaxBetween, RewardMinBetween, MeanMaxBetween, MeanMinBetween}

-- at each state the value of one list is at most that of the other
abbrev pub AreInOrder : Mdp → List ℚ → List ℚ → Type 0
AreInOrder m lower upper = (s : ℕ) → s < states_of m → value_at lower s ≤ℚ value_at upper s

-- the same of rewards, of which some are infinite
abbrev pub RewardsAreInOrder : Mdp → List (Option ℚ) → List (Option ℚ) → Type 0
RewardsAreInOrder m lower upper = (s : ℕ) → s < states_of m → AtMost (reward_at lower s) (reward_at upper s)

-- ---- the probability to reach a goal

abbrev pub ReachIsOrdered : Type 0
ReachIsOrdered =
    (m : Mdp) (goals : List Bool) (lower upper : List ℚ) (policy : List ℕ) → IsMdp m
    → ReachMaxBetween m goals lower upper policy ⊎ ReachMinBetween m goals lower upper policy → AreInOrder m lower upper

abbrev pub ReachLiesBetween : Type 0
ReachLiesBetween =
    (m : Mdp) (goals : List Bool) (lower upper z : List ℚ) (policy best : List ℕ) → IsMdp m
    → (ReachMaxBetween m goals lower upper policy × ReachMax m goals z best) ⊎ (ReachMinBetween m goals lower upper policy × ReachMin m goals z best)
    → AreInOrder m lower z × AreInOrder m z upper

abbrev pub SameReachIsExact : Type 0
SameReachIsExact =
    (m : Mdp) (goals : List Bool) (z : List ℚ) (policy : List ℕ)
    → (ReachMaxBetween m goals z z policy → ReachMax m goals z policy) × (ReachMinBetween m goals z z policy → ReachMin m goals z policy)

-- ---- the reward until a goal

abbrev pub RewardIsOrdered : Type 0
RewardIsOrdered =
    (m : Mdp) (r : ℕ) (goals : List Bool) (lower upper : List (Option ℚ)) (policy : List ℕ) → IsMdp m
    → RewardMaxBetween m r goals policy lower upper ⊎ RewardMinBetween m r goals policy lower upper → RewardsAreInOrder m lower upper

abbrev pub RewardLiesBetween : Type 0
RewardLiesBetween =
    (m : Mdp) (r : ℕ) (goals : List Bool) (lower upper v : List (Option ℚ)) (policy best : List ℕ) → IsMdp m
    → (RewardMaxBetween m r goals policy lower upper × RewardMax m r goals best v) ⊎ (RewardMinBetween m r goals policy lower upper × RewardMin m r goals best v)
    → RewardsAreInOrder m lower v × RewardsAreInOrder m v upper

abbrev pub SameRewardIsExact : Type 0
SameRewardIsExact =
    (m : Mdp) (r : ℕ) (goals : List Bool) (v : List (Option ℚ)) (policy : List ℕ)
    → (RewardMaxBetween m r goals policy v v → RewardMax m r goals policy v) × (RewardMinBetween m r goals policy v v → RewardMin m r goals policy v)

-- ---- the mean payoff

abbrev pub MeanIsOrdered : Type 0
MeanIsOrdered =
    (m : Mdp) (r : ℕ) (lower upper : List ℚ) (spread : ℚ) (policy : List ℕ) → IsMdp m
    → MeanMaxBetween m r lower upper spread policy ⊎ MeanMinBetween m r lower upper spread policy → AreInOrder m lower upper

abbrev pub MeanLiesBetween : Type 0
MeanLiesBetween =
    (m : Mdp) (r : ℕ) (lower upper g : List ℚ) (spread wider : ℚ) (policy best : List ℕ) → IsMdp m
    → (MeanMaxBetween m r lower upper spread policy × MeanMax m r g wider best) ⊎ (MeanMinBetween m r lower upper spread policy × MeanMin m r g wider best)
    → AreInOrder m lower g × AreInOrder m g upper

abbrev pub SameMeanIsExact : Type 0
SameMeanIsExact =
    (m : Mdp) (r : ℕ) (g : List ℚ) (spread : ℚ) (policy : List ℕ) → IsMdp m
    → (MeanMaxBetween m r g g spread policy → MeanMax m r g spread policy) × (MeanMinBetween m r g g spread policy → MeanMin m r g spread policy)

-- What each rule says of a place, in exact numbers: of a state, of a choice c of a state where the rule looks at one, or of no place. A rule that
-- is never asked at such a place says nothing.
use Rattle.std.specs.{Prelude.{◌≡◌, ℕ, ◌<◌, ◌⊎◌, Bool, true, false, List, length, slice_index, Option, Some, None}, List.{Any}}
use Rattle.mdp_math.specs.Rational.{ℚ, ◌+ℚ◌, ◌≤ℚ◌, ◌<ℚ◌}
use Rattle.mdp_spec.specs.{Mdp.{Mdp, states_of, choices_at, choice_at, row_at, value_at}, Row.{row_sum}, Unit.{reward_of}, Tree.{is_marked}}
use Rattle.mdp_spec.specs.{Bounds.{reward_at, finite_part}, RewardRules.{backup, IsInfinite, IsTransient, StaysFinite, Falls, FallsInfinite, StaysInfinite}}
use Rattle.mdp_spec.specs.MeanRules.{spread_of}
use Rattle.mdp_farkas.specs.{Compare.{0ℚ, 1ℚ}, Reach.{other}}
use Rattle.mdp_rows.specs.{declared.dir.Dir.{Dir}, declared.dir.Dir.TheVariants.{Max, Min}}
use Rattle.mdp_claims.specs.declared.rule.Rule.{Rule}
use Rattle.mdp_claims.specs.declared.rule.Rule.TheVariants.{ChoiceExists, Probability, GoalValue, ValueOnEachChoice, ValueOnPolicy, RankZero, RankFalls}
use Rattle.mdp_claims.specs.declared.rule.Rule.TheVariants.{RewardValue, FiniteTargets, RewardOnEachChoice, RewardOnPolicy, FiniteRankFalls, PolicyMisses, EachChoiceMisses}
use Rattle.mdp_claims.specs.declared.rule.Rule.TheVariants.{RewardNotNegative, GainOnEachChoice, BoundOnEachChoice, GainOnPolicy, BiasOnPolicy, SpreadIsGreatest}

-- a bound of a number: at least that for Max, at most for Min
abbrev pub IsBound : Dir → ℚ → ℚ → Type 0
IsBound Max bound x = x ≤ℚ bound
IsBound Min bound x = bound ≤ℚ x

-- c is a choice of state s; the policy takes it there
abbrev pub IsChoice : Mdp → ℕ → ℕ → Type 0
IsChoice m s c = c < length (choices_at m s)

abbrev pub IsTaken : List ℕ → ℕ → ℕ → Type 0
IsTaken policy s c = c ≡ slice_index policy s

-- the policy's choice for Max, each choice for Min
abbrev pub IsAsked : Dir → Mdp → List ℕ → ℕ → ℕ → Type 0
IsAsked Max m policy s c = IsTaken policy s c
IsAsked Min m policy s c = IsChoice m s c

-- the value of state s is a bound of the sum over the row of choice c
abbrev pub IsRowBound : Dir → Mdp → List ℚ → ℕ → ℕ → Type 0
IsRowBound dir m z s c = IsBound dir (value_at z s) (row_sum (row_at m s c) z)

-- ---- reaching a goal

abbrev pub IsProbability : ℚ → Type 0
IsProbability x = (0ℚ ≤ℚ x) × (x ≤ℚ 1ℚ)

-- an entry of the row of choice c at s leads to a smaller rank, and for the greatest probability to a value above 0
abbrev pub LeadsOn : Dir → Mdp → List ℚ → List ℕ → ℕ → ℕ → Type 0
LeadsOn Max m z ranks s c = Any (λ y. (0ℚ <ℚ value_at z y.target) × (slice_index ranks y.target < slice_index ranks s)) (row_at m s c)
LeadsOn Min m z ranks s c = Any (λ y. slice_index ranks y.target < slice_index ranks s) (row_at m s c)

-- what the rule says of this state, and of this choice: of an upper bound
abbrev pub UpperSays : Mdp → List Bool → List ℚ → Rule → Option ℕ → Option ℕ → Type 0
UpperSays m goals z Probability (Some s) None = s < states_of m → IsProbability (value_at z s)
UpperSays m goals z GoalValue (Some s) None = s < states_of m → is_marked goals s ≡ true → value_at z s ≡ 1ℚ
UpperSays m goals z ValueOnEachChoice (Some s) (Some c) = s < states_of m → is_marked goals s ≡ false → IsChoice m s c → IsRowBound Max m z s c
UpperSays m goals z rule state choice = Unit {0}

-- of values, a policy and ranks
module _ (dir : Dir) (m : Mdp) (goals : List Bool) (z : List ℚ) (policy ranks : List ℕ) where
  abbrev pub ReachSays : Rule → Option ℕ → Option ℕ → Type 0
  ReachSays ChoiceExists (Some s) (Some c) = s < states_of m → IsTaken policy s c → IsChoice m s c
  ReachSays Probability (Some s) None = s < states_of m → IsProbability (value_at z s)
  ReachSays GoalValue (Some s) None = s < states_of m → is_marked goals s ≡ true → value_at z s ≡ 1ℚ
  ReachSays ValueOnEachChoice (Some s) (Some c) = s < states_of m → is_marked goals s ≡ false → IsChoice m s c → IsRowBound dir m z s c
  ReachSays ValueOnPolicy (Some s) (Some c) = s < states_of m → is_marked goals s ≡ false → IsTaken policy s c → IsRowBound (other dir) m z s c
  ReachSays RankZero (Some s) None = s < states_of m → (is_marked goals s ≡ true) ⊎ (value_at z s ≡ 0ℚ) → slice_index ranks s ≡ 0
  ReachSays RankFalls (Some s) (Some c) = s < states_of m → is_marked goals s ≡ false → 0ℚ <ℚ value_at z s → IsAsked dir m policy s c → LeadsOn dir m z ranks s c
  ReachSays rule state choice = Unit {0}

-- ---- the reward of name r until a goal

-- a finite value is at least 0, and a goal has the value 0 and rank 0
abbrev pub IsRewardValue : List Bool → List (Option ℚ) → List ℕ → ℕ → Type 0
IsRewardValue goals v ranks s =
    ((x : ℚ) → reward_at v s ≡ Some x → 0ℚ ≤ℚ x) × (is_marked goals s ≡ true → (reward_at v s ≡ Some 0ℚ) × (slice_index ranks s ≡ 0))

-- the least reward looks only at the choices that lead to finite values
abbrev pub IsSeen : Dir → Mdp → List (Option ℚ) → ℕ → ℕ → Type 0
IsSeen Max m v s c = Unit {0}
IsSeen Min m v s c = StaysFinite m v s c

-- the value of state s is a bound of what choice c earns
abbrev pub IsEarningBound : Dir → Mdp → ℕ → List (Option ℚ) → ℕ → ℕ → Type 0
IsEarningBound dir m r v s c = IsBound dir (value_at (finite_part v) s) (backup m r s c (finite_part v))

-- an entry leads to an infinite value of smaller rank, or the rank is 0 and each entry leads to an infinite value of rank 0
abbrev pub Misses : Mdp → List (Option ℚ) → List ℕ → ℕ → ℕ → Type 0
Misses m v ranks s c = ((slice_index ranks s ≡ 0) × StaysInfinite m v ranks 0 s c) ⊎ FallsInfinite m v ranks s c

-- an entry leads to an infinite value of smaller rank, or each entry leads to one of this rank
abbrev pub MayMiss : Mdp → List (Option ℚ) → List ℕ → ℕ → ℕ → Type 0
MayMiss m v ranks s c = FallsInfinite m v ranks s c ⊎ StaysInfinite m v ranks (slice_index ranks s) s c

module _ (dir : Dir) (m : Mdp) (r : ℕ) (goals : List Bool) (v : List (Option ℚ)) (policy ranks : List ℕ) where
  -- what the rule says of this state, and of this choice
  abbrev pub RewardSays : Rule → Option ℕ → Option ℕ → Type 0
  RewardSays ChoiceExists (Some s) (Some c) = s < states_of m → IsTaken policy s c → IsChoice m s c
  RewardSays RewardValue (Some s) None = s < states_of m → IsRewardValue goals v ranks s
  RewardSays FiniteTargets (Some s) (Some c) = IsTransient m goals v s → IsAsked (other dir) m policy s c → StaysFinite m v s c
  RewardSays RewardOnEachChoice (Some s) (Some c) = IsTransient m goals v s → IsChoice m s c → IsSeen dir m v s c → IsEarningBound dir m r v s c
  RewardSays RewardOnPolicy (Some s) (Some c) = IsTransient m goals v s → IsTaken policy s c → IsEarningBound (other dir) m r v s c
  RewardSays FiniteRankFalls (Some s) (Some c) = IsTransient m goals v s → IsAsked (other dir) m policy s c → Falls m ranks s c
  RewardSays PolicyMisses (Some s) (Some c) = dir ≡ Max → IsInfinite m v s → IsTaken policy s c → Misses m v ranks s c
  RewardSays EachChoiceMisses (Some s) (Some c) = dir ≡ Min → IsInfinite m v s → IsChoice m s c → MayMiss m v ranks s c
  RewardSays RewardNotNegative (Some s) (Some c) = s < states_of m → IsChoice m s c → 0ℚ ≤ℚ reward_of (choice_at m s c) r
  RewardSays rule state choice = Unit {0}

-- ---- the mean payoff of the reward of name r

module _ (dir : Dir) (m : Mdp) (r : ℕ) (g a b : List ℚ) (spread : ℚ) (policy : List ℕ) where
  -- what the rule says of this state, and of this choice
  abbrev pub MeanSays : Rule → Option ℕ → Option ℕ → Type 0
  MeanSays ChoiceExists (Some s) (Some c) = s < states_of m → IsTaken policy s c → IsChoice m s c
  MeanSays GainOnEachChoice (Some s) (Some c) = s < states_of m → IsChoice m s c → IsRowBound dir m g s c
  MeanSays BoundOnEachChoice (Some s) (Some c) = s < states_of m → IsChoice m s c → IsBound dir (value_at g s +ℚ value_at a s) (backup m r s c a)
  MeanSays GainOnPolicy (Some s) (Some c) = s < states_of m → IsTaken policy s c → row_sum (row_at m s c) g ≡ value_at g s
  MeanSays BiasOnPolicy (Some s) (Some c) = s < states_of m → IsTaken policy s c → backup m r s c b ≡ value_at g s +ℚ value_at b s
  MeanSays SpreadIsGreatest None None = spread ≡ spread_of a b
  MeanSays rule state choice = Unit {0}

-- What each rule of bounds says of a place, in exact numbers: of a state, of a choice c of a state where the rule looks at one, or of no place.
-- A rule that is asked of both columns, the lower and the upper values, says it of each. A rule that is never asked at such a place says nothing.
use Rattle.std.specs.Prelude.{◌≡◌, ℕ, ◌<◌, ◌⊎◌, Bool, true, false, List, slice_index, Option, Some, None}
use Rattle.mdp_math.specs.Rational.{ℚ, ◌+ℚ◌, ◌≤ℚ◌, ◌<ℚ◌}
use Rattle.mdp_spec.specs.{Mdp.{Mdp, states_of, choice_at, value_at}, Unit.{reward_of}, Tree.{is_marked}, Bounds.{infinite}}
use Rattle.mdp_spec.specs.{RewardRules.{backup, IsInfinite, IsTransient, StaysFinite, Falls}, MeanRules.{spread_of}}
use Rattle.mdp_farkas.specs.{Compare.{0ℚ, 1ℚ}, Reach.{other}}
pub use Rattle.mdp_farkas.specs.Says.{IsBound, IsChoice, IsTaken, IsAsked, IsRowBound, IsProbability, LeadsOn, IsRewardValue, IsSeen, IsEarningBound}
pub use Rattle.mdp_farkas.specs.Says.{Misses, MayMiss}
use Rattle.mdp_bounds.specs.Reach.{covering, followed}
use Rattle.mdp_rows.specs.{declared.dir.Dir.{Dir}, declared.dir.Dir.TheVariants.{Max, Min}}
use Rattle.mdp_claims.specs.declared.rule.Rule.{Rule}
use Rattle.mdp_claims.specs.declared.rule.Rule.TheVariants.{ChoiceExists, Probability, GoalValue, ValueOnEachChoice, ValueOnPolicy, RankZero, RankFalls}
use Rattle.mdp_claims.specs.declared.rule.Rule.TheVariants.{RewardValue, FiniteTargets, RewardOnEachChoice, RewardOnPolicy, FiniteRankFalls, PolicyMisses, EachChoiceMisses}
use Rattle.mdp_claims.specs.declared.rule.Rule.TheVariants.{RewardNotNegative, GainOnEachChoice, BoundOnEachChoice, GainOnPolicy, BiasOnPolicy, SpreadIsGreatest}

-- the lower values or the upper ones
pub data Column : Type 0 where
  lower_column : Column
  upper_column : Column

abbrev pub column : {A : Type 0} → Column → A → A → A
column lower_column lower upper = lower
column upper_column lower upper = upper

-- what is said is false of one of the two columns
abbrev pub IsFalseOfOne : (Column → Type 0) → Type 0
IsFalseOfOne Says = (side : Column) × (Says side → ⊥)

-- ---- reaching a goal

module _ (dir : Dir) (m : Mdp) (goals : List Bool) (lower upper : List ℚ) (policy ranks : List ℕ) where
  -- what the rule says of this column at this state, and of this choice
  abbrev pub ReachSays : Column → Rule → Option ℕ → Option ℕ → Type 0
  ReachSays side ChoiceExists (Some s) (Some c) = s < states_of m → IsTaken policy s c → IsChoice m s c
  ReachSays side Probability (Some s) None = s < states_of m → IsProbability (value_at (column side lower upper) s)
  ReachSays side GoalValue (Some s) None = s < states_of m → is_marked goals s ≡ true → value_at (column side lower upper) s ≡ 1ℚ
  ReachSays side ValueOnEachChoice (Some s) (Some c) =
      s < states_of m → is_marked goals s ≡ false → IsChoice m s c → IsRowBound dir m (covering dir lower upper) s c
  ReachSays side ValueOnPolicy (Some s) (Some c) =
      s < states_of m → is_marked goals s ≡ false → IsTaken policy s c → IsRowBound (other dir) m (followed dir lower upper) s c
  ReachSays side RankZero (Some s) None = s < states_of m → (is_marked goals s ≡ true) ⊎ (value_at lower s ≡ 0ℚ) → slice_index ranks s ≡ 0
  ReachSays side RankFalls (Some s) (Some c) =
      s < states_of m → is_marked goals s ≡ false → 0ℚ <ℚ value_at lower s → IsAsked dir m policy s c → LeadsOn dir m lower ranks s c
  ReachSays side rule state choice = Unit {0}

-- ---- the reward of name r until a goal

-- the lower value is infinite only where the upper one is
abbrev pub IsOrderedAt : List (Option ℚ) → List (Option ℚ) → ℕ → Type 0
IsOrderedAt lower upper s = is_marked (infinite lower) s ≡ true → is_marked (infinite upper) s ≡ true

-- the values that the half on each choice is asked of; the half on the policy's choice is asked of the others
abbrev pub covering_rewards : Dir → List (Option ℚ) → List (Option ℚ) → List (Option ℚ)
covering_rewards Max lower upper = upper
covering_rewards Min lower upper = lower

-- at a state of finite value that is no goal each choice, and for the least reward the policy's, leads to finite values only
abbrev pub StaysAt : Dir → Mdp → List Bool → List (Option ℚ) → List ℕ → ℕ → ℕ → Type 0
StaysAt dir m goals v policy s c = IsTransient m goals v s → IsAsked (other dir) m policy s c → StaysFinite m v s c

module _ (dir : Dir) (m : Mdp) (r : ℕ) (goals : List Bool) (lower upper : List (Option ℚ)) (policy ranks : List ℕ) where
  -- what the rule says of this column at this state, and of this choice
  abbrev pub RewardSays : Column → Rule → Option ℕ → Option ℕ → Type 0
  RewardSays side ChoiceExists (Some s) (Some c) = s < states_of m → IsTaken policy s c → IsChoice m s c
  RewardSays side RewardValue (Some s) None = s < states_of m → IsOrderedAt lower upper s × IsRewardValue goals (column side lower upper) ranks s
  RewardSays side FiniteTargets (Some s) (Some c) = StaysAt dir m goals (column side lower upper) policy s c
  RewardSays side RewardOnEachChoice (Some s) (Some c) =
      let v = covering_rewards dir lower upper in IsTransient m goals v s → IsChoice m s c → IsSeen dir m v s c → IsEarningBound dir m r v s c
  RewardSays side RewardOnPolicy (Some s) (Some c) =
      let v = covering_rewards (other dir) lower upper in IsTransient m goals v s → IsTaken policy s c → IsEarningBound (other dir) m r v s c
  RewardSays side FiniteRankFalls (Some s) (Some c) = IsTransient m goals lower s → IsAsked (other dir) m policy s c → Falls m ranks s c
  RewardSays side PolicyMisses (Some s) (Some c) = dir ≡ Max → IsInfinite m lower s → IsTaken policy s c → Misses m lower ranks s c
  RewardSays side EachChoiceMisses (Some s) (Some c) = dir ≡ Min → IsInfinite m lower s → IsChoice m s c → MayMiss m lower ranks s c
  RewardSays side RewardNotNegative (Some s) (Some c) = s < states_of m → IsChoice m s c → 0ℚ ≤ℚ reward_of (choice_at m s c) r
  RewardSays side rule state choice = Unit {0}

-- ---- the mean payoff of the reward of name r

-- the gain and the relative value of state s together are a bound of what choice c earns by the relative values
abbrev pub IsStepBound : Dir → Mdp → ℕ → List ℚ → List ℚ → ℕ → ℕ → Type 0
IsStepBound dir m r g z s c = IsBound dir (value_at g s +ℚ value_at z s) (backup m r s c z)

module _ (dir : Dir) (m : Mdp) (r : ℕ) (lower upper a b : List ℚ) (spread : ℚ) (policy : List ℕ) where
  -- what the rule says of this state, and of this choice
  abbrev pub MeanSays : Rule → Option ℕ → Option ℕ → Type 0
  MeanSays ChoiceExists (Some s) (Some c) = s < states_of m → IsTaken policy s c → IsChoice m s c
  MeanSays GainOnEachChoice (Some s) (Some c) = s < states_of m → IsChoice m s c → IsRowBound dir m (covering dir lower upper) s c
  MeanSays BoundOnEachChoice (Some s) (Some c) = s < states_of m → IsChoice m s c → IsStepBound dir m r (covering dir lower upper) a s c
  MeanSays GainOnPolicy (Some s) (Some c) = s < states_of m → IsTaken policy s c → IsRowBound (other dir) m (followed dir lower upper) s c
  MeanSays BiasOnPolicy (Some s) (Some c) =
      s < states_of m → IsTaken policy s c → IsStepBound (other dir) m r (followed dir lower upper) b s c
  MeanSays SpreadIsGreatest None None = spread ≡ spread_of a b
  MeanSays rule state choice = Unit {0}

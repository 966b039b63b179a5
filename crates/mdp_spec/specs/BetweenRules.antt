-- The rules for a lower and an upper value for each state and a policy, in exact numbers: those of Rules, RewardRules and MeanRules, each
-- half on its own values. Where a value is the greatest, the half on each choice is asked of the upper values, and the half on the policy's
-- choice, with the ranks, of the lower ones; for the least the half on each choice, with the ranks, is asked of the lower values, and the
-- half on the policy's choice of the upper ones.
use Rattle.std.specs.Prelude.{◌≡◌, ℕ, ◌<◌, Bool, true, false, List, length, slice_index, Option}
use Rattle.mdp_math.specs.Rational.{ℚ, ◌+ℚ◌, ◌≤ℚ◌}
use Rattle.mdp_spec.specs.{Mdp.{Mdp, states_of, choices_at, row_at, value_at}, Row.{row_sum}, Tree.{IsPolicy, is_marked}, Bounds.{finite_part, infinite}}
use Rattle.mdp_spec.specs.Rules.{AreProbabilities, Covers, IsCovered, RanksEnd, PolicyFalls, EachFalls}
use Rattle.mdp_spec.specs.RewardRules.{backup, IsInfinite, IsTransient, StaysFinite, Falls, IsCoveredWhereFinite, InfiniteUnderPolicy, InfiniteOnEach, AreRewards}
use Rattle.mdp_spec.specs.MeanRules.{HasSpread}

-- ---- reaching a goal

pub record MeetsReachMaxBetween (m : Mdp) (goals : List Bool) (lower upper : List ℚ) (policy ranks : List ℕ) : Type 0 where
  pub choices : IsPolicy m policy
  pub lower_values : AreProbabilities m goals lower
  pub upper_values : AreProbabilities m goals upper
  pub covers : Covers m goals upper
  pub reached : (s : ℕ) → s < states_of m → is_marked goals s ≡ false → value_at lower s ≤ℚ row_sum (row_at m s (slice_index policy s)) lower
  pub ends : RanksEnd m goals lower ranks
  pub falls : PolicyFalls m goals lower policy ranks

pub record MeetsReachMinBetween (m : Mdp) (goals : List Bool) (lower upper : List ℚ) (policy ranks : List ℕ) : Type 0 where
  pub choices : IsPolicy m policy
  pub lower_values : AreProbabilities m goals lower
  pub upper_values : AreProbabilities m goals upper
  pub covered : IsCovered m goals lower
  pub reached : (s : ℕ) → s < states_of m → is_marked goals s ≡ false → row_sum (row_at m s (slice_index policy s)) upper ≤ℚ value_at upper s
  pub ends : RanksEnd m goals lower ranks
  pub falls : EachFalls m goals lower ranks

-- ---- the reward of name r until a goal

pub record MeetsRewardMaxBetween (m : Mdp) (r : ℕ) (goals : List Bool) (lower upper : List (Option ℚ)) (policy ranks : List ℕ) : Type 0 where
  pub named : r < length m.names
  pub one_each : length lower ≡ states_of m
  pub one_above : length upper ≡ states_of m
  pub choices : IsPolicy m policy
  pub lower_values : AreRewards m goals lower ranks
  pub upper_values : AreRewards m goals upper ranks
  pub ordered : (s : ℕ) → IsInfinite m lower s → is_marked (infinite upper) s ≡ true
  -- at a state of finite upper value that is no goal: each choice leads to finite upper values only, and is covered by the upper value
  pub upper_stays : (s c : ℕ) → IsTransient m goals upper s → c < length (choices_at m s) → StaysFinite m upper s c
  pub covers : (s c : ℕ) → IsTransient m goals upper s → c < length (choices_at m s) → backup m r s c (finite_part upper) ≤ℚ value_at (finite_part upper) s
  -- at a state of finite lower value that is no goal: each choice leads to finite lower values only, and to a smaller rank, and the policy's
  -- choice covers the lower value
  pub stays : (s c : ℕ) → IsTransient m goals lower s → c < length (choices_at m s) → StaysFinite m lower s c
  pub reached : (s : ℕ) → IsTransient m goals lower s → value_at (finite_part lower) s ≤ℚ backup m r s (slice_index policy s) (finite_part lower)
  pub falls : (s c : ℕ) → IsTransient m goals lower s → c < length (choices_at m s) → Falls m ranks s c
  pub misses : InfiniteUnderPolicy m lower policy ranks

pub record MeetsRewardMinBetween (m : Mdp) (r : ℕ) (goals : List Bool) (lower upper : List (Option ℚ)) (policy ranks : List ℕ) : Type 0 where
  pub named : r < length m.names
  pub one_each : length lower ≡ states_of m
  pub one_above : length upper ≡ states_of m
  pub choices : IsPolicy m policy
  pub lower_values : AreRewards m goals lower ranks
  pub upper_values : AreRewards m goals upper ranks
  pub ordered : (s : ℕ) → IsInfinite m lower s → is_marked (infinite upper) s ≡ true
  -- at a state of finite upper value that is no goal: the policy's choice leads to finite upper values only, and the upper value covers it
  pub upper_stays : (s : ℕ) → IsTransient m goals upper s → StaysFinite m upper s (slice_index policy s)
  pub reached : (s : ℕ) → IsTransient m goals upper s → backup m r s (slice_index policy s) (finite_part upper) ≤ℚ value_at (finite_part upper) s
  -- at a state of finite lower value that is no goal: the policy's choice leads to finite lower values only, and to a smaller rank; no choice
  -- that leads to finite lower values only earns less than the lower value
  pub stays : (s : ℕ) → IsTransient m goals lower s → StaysFinite m lower s (slice_index policy s)
  pub covered : IsCoveredWhereFinite m r goals lower
  pub falls : (s : ℕ) → IsTransient m goals lower s → Falls m ranks s (slice_index policy s)
  pub misses : InfiniteOnEach m lower ranks

-- ---- mean payoff: the bound a belongs to the half on each choice, the bias b to the half on the policy's choice

pub record MeetsMeanMaxBetween (m : Mdp) (r : ℕ) (lower upper a b : List ℚ) (spread : ℚ) (policy : List ℕ) : Type 0 where
  pub named : r < length m.names
  pub choices : IsPolicy m policy
  pub spreads : HasSpread m a b spread
  -- no choice leads to a greater upper gain, and none earns more than the upper gain and the bound
  pub gain_covers : (s c : ℕ) → s < states_of m → c < length (choices_at m s) → row_sum (row_at m s c) upper ≤ℚ value_at upper s
  pub bound_covers : (s c : ℕ) → s < states_of m → c < length (choices_at m s) → backup m r s c a ≤ℚ value_at upper s +ℚ value_at a s
  -- the policy's choice keeps at least the lower gain, and with the bias it earns at least that in each step
  pub gain_reached : (s : ℕ) → s < states_of m → value_at lower s ≤ℚ row_sum (row_at m s (slice_index policy s)) lower
  pub bias_reached : (s : ℕ) → s < states_of m → value_at lower s +ℚ value_at b s ≤ℚ backup m r s (slice_index policy s) b

pub record MeetsMeanMinBetween (m : Mdp) (r : ℕ) (lower upper a b : List ℚ) (spread : ℚ) (policy : List ℕ) : Type 0 where
  pub named : r < length m.names
  pub choices : IsPolicy m policy
  pub spreads : HasSpread m a b spread
  -- no choice leads to a smaller lower gain, and none earns less than the lower gain and the bound
  pub gain_covered : (s c : ℕ) → s < states_of m → c < length (choices_at m s) → value_at lower s ≤ℚ row_sum (row_at m s c) lower
  pub bound_covered : (s c : ℕ) → s < states_of m → c < length (choices_at m s) → value_at lower s +ℚ value_at a s ≤ℚ backup m r s c a
  -- the policy's choice keeps at most the upper gain, and with the bias it earns at most that in each step
  pub gain_reached : (s : ℕ) → s < states_of m → row_sum (row_at m s (slice_index policy s)) upper ≤ℚ value_at upper s
  pub bias_reached : (s : ℕ) → s < states_of m → backup m r s (slice_index policy s) b ≤ℚ value_at upper s +ℚ value_at b s

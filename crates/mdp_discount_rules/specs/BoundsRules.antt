-- The rules for a lower and an upper value for each state, a policy and a remainder of the discounted reward of name r, in exact numbers. The half on
-- each choice is asked of the upper values where they are the greatest rewards, and of the lower ones where they are the least; the half on the
-- policy's choice of the other values. A value that is missing is asked nothing.
use Rattle.std.specs.Prelude.{◌≡◌, ℕ, ◌<◌, List, ◌∷◌, ◌++◌, length, map, slice_index, Option, IfSome}
use Rattle.mdp_math.specs.{Rational.{ℚ, ◌*ℚ◌, ◌-ℚ◌}, Extremes.{greatest}}
use Rattle.mdp_spec.specs.{Mdp.{Mdp, states_of, choices_at, choice_at, row_at}, Row.{row_sum}, Unit.{reward_of}, Tree.{IsPolicy}}
use Rattle.mdp_spec.specs.{Bounds.{reward_at, finite_part}, RewardRules.{StaysFinite}}
use Rattle.mdp_farkas.specs.{Compare.{0ℚ}, Reach.{other}}
use Rattle.mdp_rows.specs.{declared.dir.Dir.{Dir}, Better.{IsAsGood}}
use Rattle.mdp_bounds.specs.Says.{covering_rewards}
use Rattle.mdp_discount_rules.specs.Rules.{magnitude}

-- what the value x of state s leaves to the reward of choice c: less f times what the row sums up of the values v
abbrev pub left_for : Mdp → ℚ → ℕ → ℕ → List (Option ℚ) → ℚ → ℚ
left_for m f s c v x = x -ℚ f *ℚ row_sum (row_at m s c) (finite_part v)

-- the value of state s is as good as what choice c earns: each target has a value, and what is left is as good as the reward
abbrev pub Allows : Dir → Mdp → ℕ → ℚ → List (Option ℚ) → ℕ → ℕ → Type 0
Allows dir m r f v s c = IfSome (reward_at v s) (λ x. StaysFinite m v s c × IsAsGood dir (left_for m f s c v x) (reward_of (choice_at m s c) r))

-- the greatest magnitude of the values of both lists that aren't missing, 0 where there is none
abbrev pub greatest_magnitude : List (Option ℚ) → List (Option ℚ) → ℚ
greatest_magnitude lower upper = greatest (0ℚ ∷ map magnitude (finite_part (lower ++ upper)))

pub record MeetsDiscountBetween (dir : Dir) (m : Mdp) (r : ℕ) (f : ℚ) (lower upper : List (Option ℚ)) (remainder : ℚ) (policy : List ℕ) : Type 0 where
  pub named : r < length m.names
  pub one_each : length lower ≡ states_of m
  pub one_above : length upper ≡ states_of m
  pub choices : IsPolicy m policy
  pub covers : (s c : ℕ) → s < states_of m → c < length (choices_at m s) → Allows dir m r f (covering_rewards dir lower upper) s c
  pub reached : (s : ℕ) → s < states_of m → Allows (other dir) m r f (covering_rewards (other dir) lower upper) s (slice_index policy s)
  pub widest : remainder ≡ greatest_magnitude lower upper

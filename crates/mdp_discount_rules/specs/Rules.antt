-- The rules for values, a policy and a remainder of the discounted reward of name r, in exact numbers (Puterman 1994, section 6.1: the optimality
-- equation).
use Rattle.std.specs.Prelude.{◌≡◌, ℕ, ◌<◌, List, [], ◌∷◌, length, map, slice_index, pos}
use Rattle.mdp_math.specs.{Rational.{ℚ, of_int, ◌+ℚ◌, ◌*ℚ◌, neg_ℚ, ◌≤ℚ◌, ◌<ℚ◌}, Extremes.{greatest}}
use Rattle.mdp_spec.specs.{Mdp.{Mdp, states_of, choices_at, choice_at, row_at, value_at}, Row.{row_sum}, Unit.{reward_of}, Tree.{IsPolicy}}
use Rattle.mdp_rows.specs.{declared.dir.Dir.{Dir}, Better.{IsAsGood}}

-- a discount factor
pub record IsFactor (f : ℚ) : Type 0 where
  pub at_least_zero : of_int (pos 0) ≤ℚ f
  pub below_one : f <ℚ of_int (pos 1)

-- what choice c at s earns at once, and f times what its row sums up of the values v
abbrev pub discounted : Mdp → ℕ → ℚ → ℕ → ℕ → List ℚ → ℚ
discounted m r f s c v = reward_of (choice_at m s c) r +ℚ f *ℚ row_sum (row_at m s c) v

abbrev pub magnitude : ℚ → ℚ
magnitude x = greatest (x ∷ neg_ℚ x ∷ [])

pub record MeetsDiscount (dir : Dir) (m : Mdp) (r : ℕ) (f : ℚ) (v : List ℚ) (remainder : ℚ) (policy : List ℕ) : Type 0 where
  pub named : r < length m.names
  pub one_each : length v ≡ states_of m
  pub choices : IsPolicy m policy
  -- the value is as good as each choice, and the policy's choice comes to it
  pub covers : (s c : ℕ) → s < states_of m → c < length (choices_at m s) → IsAsGood dir (value_at v s) (discounted m r f s c v)
  pub reached : (s : ℕ) → s < states_of m → value_at v s ≡ discounted m r f s (slice_index policy s) v
  pub greatest_magnitude : remainder ≡ greatest (map magnitude v)

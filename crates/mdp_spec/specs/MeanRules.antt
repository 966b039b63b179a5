-- The rules for gains and a policy of the mean payoff of the reward of name r, in exact numbers (Puterman 1994, section 9.1: the multichain
-- optimality equations). g is the gain. The bound a and the bias b are two relative values: a covers, or is covered by, each choice, and b
-- solves the policy's own equation. The spread is the wider of their two ranges.
use Rattle.std.specs.Prelude.{◌≡◌, ℕ, ◌<◌, List, [], ◌∷◌, length, slice_index}
use Rattle.mdp_math.specs.{Rational.{ℚ, ◌+ℚ◌, ◌-ℚ◌, ◌≤ℚ◌}, Extremes.{least, greatest}}
use Rattle.mdp_spec.specs.{Mdp.{Mdp, states_of, choices_at, row_at, value_at}, Tree.{IsPolicy}, Row.{row_sum}, RewardRules.{backup}}

-- from the least to the greatest of some values
abbrev pub width_of : List ℚ → ℚ
width_of z = greatest z -ℚ least z

abbrev pub spread_of : List ℚ → List ℚ → ℚ
spread_of a b = greatest (width_of a ∷ width_of b ∷ [])

-- at each state the policy's choice keeps the gain, and with the bias it earns the gain in each step
pub record IsEvaluation (m : Mdp) (r : ℕ) (g b : List ℚ) (policy : List ℕ) : Type 0 where
  pub gain : (s : ℕ) → s < states_of m → row_sum (row_at m s (slice_index policy s)) g ≡ value_at g s
  pub bias : (s : ℕ) → s < states_of m → backup m r s (slice_index policy s) b ≡ value_at g s +ℚ value_at b s

-- one value of each list for each state, and the spread of both
pub record HasSpread (m : Mdp) (a b : List ℚ) (spread : ℚ) : Type 0 where
  pub bounds : length a ≡ states_of m
  pub biases : length b ≡ states_of m
  pub widest : spread ≡ spread_of a b

pub record MeetsMeanMax (m : Mdp) (r : ℕ) (g a b : List ℚ) (spread : ℚ) (policy : List ℕ) : Type 0 where
  pub named : r < length m.names
  pub choices : IsPolicy m policy
  pub spreads : HasSpread m a b spread
  -- no choice leads to a greater gain, and none earns more than the gain and the bound
  pub gain_covers : (s c : ℕ) → s < states_of m → c < length (choices_at m s) → row_sum (row_at m s c) g ≤ℚ value_at g s
  pub bound_covers : (s c : ℕ) → s < states_of m → c < length (choices_at m s) → backup m r s c a ≤ℚ value_at g s +ℚ value_at a s
  pub evaluation : IsEvaluation m r g b policy

pub record MeetsMeanMin (m : Mdp) (r : ℕ) (g a b : List ℚ) (spread : ℚ) (policy : List ℕ) : Type 0 where
  pub named : r < length m.names
  pub choices : IsPolicy m policy
  pub spreads : HasSpread m a b spread
  -- no choice leads to a smaller gain, and none earns less than the gain and the bound
  pub gain_covered : (s c : ℕ) → s < states_of m → c < length (choices_at m s) → value_at g s ≤ℚ row_sum (row_at m s c) g
  pub bound_covered : (s c : ℕ) → s < states_of m → c < length (choices_at m s) → value_at g s +ℚ value_at a s ≤ℚ backup m r s c a
  pub evaluation : IsEvaluation m r g b policy

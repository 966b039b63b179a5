-- What a lower and an upper value for each state and a table of n steps mean, over every policy with history and rational mixing: the best
-- value lies between the two, and the tree that follows the table comes to no less than the lower, or no more than the upper one. Values are
-- fractions, or missing: a value that is missing claims nothing.
use Rattle.std.specs.Prelude.{◌≡◌, ℕ, ◌<◌, List, length, Option, Some, None}
use Rattle.mdp_math.specs.Rational.{ℚ, ◌≤ℚ◌}
use Rattle.mdp_spec.specs.{Mdp.{Mdp, states_of}, Tree.{Tree, IsStrategy}, Bounds.{reward_at}}
use Rattle.mdp_horizon.specs.{Table.{unfolded_steps, IsTable}, Objective.{Objective, value_of}}

-- the claim on a value
abbrev pub Claimed : Option ℚ → (ℚ → Type 0) → Type 0
Claimed None claim = Unit {0}
Claimed (Some x) claim = claim x

-- the greatest value: no tree passes the upper values, and the table's tree meets the lower ones
pub record MaxBetween (m : Mdp) (o : Objective) (n : ℕ) (lower upper : List (Option ℚ)) (table : List (List ℕ)) : Type 0 where
  pub takes : IsTable m n table
  pub one_each : length lower ≡ states_of m
  pub one_above : length upper ≡ states_of m
  pub above : (u : ℕ) (t : Tree) (s : ℕ) → s < states_of m → IsStrategy m u n t s → Claimed (reward_at upper s) (λ y. value_of m o u n t s ≤ℚ y)
  pub reached : (s : ℕ) → s < states_of m → Claimed (reward_at lower s) (λ x. x ≤ℚ value_of m o 1 n (unfolded_steps m table s) s)

-- the least value: no tree stays below the lower values, and the table's tree doesn't pass the upper ones
pub record MinBetween (m : Mdp) (o : Objective) (n : ℕ) (lower upper : List (Option ℚ)) (table : List (List ℕ)) : Type 0 where
  pub takes : IsTable m n table
  pub one_each : length lower ≡ states_of m
  pub one_above : length upper ≡ states_of m
  pub below : (u : ℕ) (t : Tree) (s : ℕ) → s < states_of m → IsStrategy m u n t s → Claimed (reward_at lower s) (λ x. x ≤ℚ value_of m o u n t s)
  pub reached : (s : ℕ) → s < states_of m → Claimed (reward_at upper s) (λ y. value_of m o 1 n (unfolded_steps m table s) s ≤ℚ y)

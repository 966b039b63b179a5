-- What values and a table of n steps mean for a bounded until and for a total reward, over every policy with history and rational mixing.
use Rattle.std.specs.Prelude.{◌≡◌, ℕ, ◌<◌, Bool, List, length}
use Rattle.mdp_math.specs.Rational.{ℚ, ◌≤ℚ◌}
use Rattle.mdp_spec.specs.{Mdp.{Mdp, states_of, value_at}, Tree.{Tree, IsStrategy}, Pay.{total}}
use Rattle.mdp_spec.specs.Until.{until}
use Rattle.mdp_horizon.specs.Table.{unfolded_steps, IsTable}

-- the greatest probabilities within n steps: no tree passes them, and the table's tree meets them
pub record BoundedMax (m : Mdp) (stay goals : List Bool) (n : ℕ) (z : List ℚ) (table : List (List ℕ)) : Type 0 where
  pub takes : IsTable m n table
  pub above : (u : ℕ) (t : Tree) (s : ℕ) → s < states_of m → IsStrategy m u n t s → until m stay goals u n t s ≤ℚ value_at z s
  pub reached : (s : ℕ) → s < states_of m → until m stay goals 1 n (unfolded_steps m table s) s ≡ value_at z s

-- the least probabilities: no tree stays below them, and the table's tree meets them
pub record BoundedMin (m : Mdp) (stay goals : List Bool) (n : ℕ) (z : List ℚ) (table : List (List ℕ)) : Type 0 where
  pub takes : IsTable m n table
  pub below : (u : ℕ) (t : Tree) (s : ℕ) → s < states_of m → IsStrategy m u n t s → value_at z s ≤ℚ until m stay goals u n t s
  pub reached : (s : ℕ) → s < states_of m → until m stay goals 1 n (unfolded_steps m table s) s ≡ value_at z s

-- the greatest total rewards, in n steps, of the reward name of place r: no tree earns more, and the table's tree earns as much
pub record TotalMax (m : Mdp) (r n : ℕ) (z : List ℚ) (table : List (List ℕ)) : Type 0 where
  pub named : r < length m.names
  pub takes : IsTable m n table
  pub above : (u : ℕ) (t : Tree) (s : ℕ) → s < states_of m → IsStrategy m u n t s → total m r u n t s ≤ℚ value_at z s
  pub reached : (s : ℕ) → s < states_of m → total m r 1 n (unfolded_steps m table s) s ≡ value_at z s

-- the least total rewards: no tree earns less, and the table's tree earns as much
pub record TotalMin (m : Mdp) (r n : ℕ) (z : List ℚ) (table : List (List ℕ)) : Type 0 where
  pub named : r < length m.names
  pub takes : IsTable m n table
  pub below : (u : ℕ) (t : Tree) (s : ℕ) → s < states_of m → IsStrategy m u n t s → value_at z s ≤ℚ total m r u n t s
  pub reached : (s : ℕ) → s < states_of m → total m r 1 n (unfolded_steps m table s) s ≡ value_at z s

-- The greatest and the least reward of a name over all choices.
use Rattle.std.specs.Prelude.{◌≡◌, ℕ, ◌<◌, List, length}
use Rattle.mdp_math.specs.Rational.{ℚ}
use Rattle.mdp_spec.specs.{Mdp.{Mdp, states_of, choices_at, choice_at, value_at}, Unit.{reward_of}}
use Rattle.mdp_rows.specs.{declared.dir.Dir.{Dir}, Better.{IsAsGood}}

-- x is at least, or for the least reward at most, the reward of name r of each of the first n choices of state s
abbrev pub IsAsGoodAt : Dir → Mdp → ℕ → ℚ → ℕ → ℕ → Type 0
IsAsGoodAt dir m r x s n = (c : ℕ) → c < n → IsAsGood dir x (reward_of (choice_at m s c) r)

-- and that of each choice of the first n states
abbrev pub IsAsGoodBelow : Dir → Mdp → ℕ → ℚ → ℕ → Type 0
IsAsGoodBelow dir m r x n = (s c : ℕ) → s < n → c < length (choices_at m s) → IsAsGood dir x (reward_of (choice_at m s c) r)

-- some choice has the reward x of name r
pub record IsEarned (m : Mdp) (r : ℕ) (x : ℚ) : Type 0 where
  pub state : ℕ
  pub choice : ℕ
  pub state_in : state < states_of m
  pub choice_in : choice < length (choices_at m state)
  pub earns : x ≡ reward_of (choice_at m state choice) r

-- x is the greatest, or the least, reward of name r
pub record IsExtreme (dir : Dir) (m : Mdp) (r : ℕ) (x : ℚ) : Type 0 where
  pub as_each : IsAsGoodBelow dir m r x (states_of m)
  pub earned : IsEarned m r x

-- each of these, one for each state, is
abbrev pub AreAllExtreme : Dir → Mdp → ℕ → List ℚ → Type 0
AreAllExtreme dir m r gains = (s : ℕ) → s < states_of m → IsExtreme dir m r (value_at gains s)

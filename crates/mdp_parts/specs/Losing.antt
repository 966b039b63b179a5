-- Choices that are forbidden since they lead to a state without an allowed choice.
use Rattle.std.specs.{Prelude.{◌≡◌, ℕ, ◌<◌, Bool, true, false, List, length, slice_index}, List.{All}}
use Rattle.mdp_spec.specs.Mdp.{Mdp, states_of, choices_at}
use Rattle.mdp_ends.specs.Rounds.{KeepsEnds}
use Rattle.mdp_parts.specs.{declared.losing.Seed.{Seed}, Allowed.{allowed_at, AreChoices}}

-- no choice of state s is allowed
abbrev pub IsLost : Mdp → List (List Bool) → ℕ → Type 0
IsLost m allowed s = (c : ℕ) → c < length (choices_at m s) → allowed_at allowed s c ≡ false

-- some choices were forbidden, none of an end component
pub record IsPruned (m : Mdp) (old new : List (List Bool)) : Type 0 where
  pub sizes : AreChoices m new
  pub fewer : (s c : ℕ) → s < states_of m → c < length (choices_at m s) → allowed_at new s c ≡ true → allowed_at old s c ≡ true
  pub keeps : KeepsEnds m (allowed_at old) → KeepsEnds m (allowed_at new)

-- for each state a number below which none of its choices is allowed, states that are lost, and states that lost a choice
pub record AreLosing (m : Mdp) (allowed : List (List Bool)) (first lost : List ℕ) (seeds : List Seed) : Type 0 where
  pub count : length first ≡ states_of m
  pub before : (s c : ℕ) → s < states_of m → c < length (choices_at m s) → c < slice_index first s → allowed_at allowed s c ≡ false
  pub below : (k : ℕ) → k < length lost → slice_index lost k < states_of m
  pub without : (k : ℕ) → k < length lost → IsLost m allowed (slice_index lost k)
  pub seeds_below : All (λ x. x.state < states_of m) seeds

-- What the worth of a choice depends on.
use Rattle.std.specs.{Prelude.{◌≡◌, ℕ, ◌<◌, true, List, ◌⊎◌}, List.{All}}
use Rattle.mdp_math.specs.Rational.{ℚ}
use Rattle.mdp_spec.specs.Mdp.{value_at}
use Rattle.mdp_rows.specs.Preds.{is_among}
use Rattle.mdp_policy_iteration.specs.Problem.{Problem, Move, stop, go, given, count, node_at, choice_at}

-- the value of node t is given
abbrev pub IsGiven : Problem → ℕ → Type 0
IsGiven p t = (v : ℚ) × (node_at p t ≡ given v)

-- two lists of values agree at these nodes, and at those whose value is given
pub record AgreeAt (p : Problem) (nodes : List ℕ) (x y : List ℚ) : Type 0 where
  pub listed : (t : ℕ) → is_among t nodes ≡ true → value_at x t ≡ value_at y t
  pub fixed : (t : ℕ) → IsGiven p t → value_at x t ≡ value_at y t

-- a move leads to these nodes, or to some whose value is given
abbrev pub LeadsTo : Problem → List ℕ → Move → Type 0
LeadsTo p nodes (stop v) = Unit {0}
LeadsTo p nodes (go r row) = All (λ x. (is_among x.target nodes ≡ true) ⊎ IsGiven p x.target) row

-- choice c of node s leads to these nodes, and what it is worth by written arithmetic depends on their values; nodes whose value is given may be missing
pub record Reads (p : Problem) (s c : ℕ) (nodes : List ℕ) : Type 0 where
  pub in_range : All (λ t. t < count p) nodes
  pub row : LeadsTo p nodes (choice_at p s c).move
  pub worth : (x y : List ℚ) → AgreeAt p nodes x y → (choice_at p s c).written x ≡ (choice_at p s c).written y

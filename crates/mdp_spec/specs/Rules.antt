-- The rules for values and a policy of reachability, in exact numbers (the sums: Funke, Jantsch and Baier 2020). Each
-- value is from 0 to 1, and 1 at a goal. At any other state the value is at least the sum over each choice's row; where it is the greatest
-- probability, it is at most the sum over the policy's row; and for the least both the other way round. Ranks fall along the rows that
-- have to lead to a goal.
use Rattle.std.specs.{Prelude.{◌≡◌, ℕ, ◌<◌, ◌⊎◌, Bool, true, false, List, length, slice_index, pos}, List.{Any}}
use Rattle.mdp_math.specs.Rational.{ℚ, of_int, ◌≤ℚ◌, ◌<ℚ◌}
use Rattle.mdp_spec.specs.{Mdp.{Mdp, states_of, choices_at, row_at, value_at}, Row.{row_sum}, Tree.{IsPolicy, is_marked}}

-- each value is a probability, and 1 at a goal
pub record AreProbabilities (m : Mdp) (goals : List Bool) (z : List ℚ) : Type 0 where
  pub at_least_zero : (s : ℕ) → s < states_of m → of_int (pos 0) ≤ℚ value_at z s
  pub at_most_one : (s : ℕ) → s < states_of m → value_at z s ≤ℚ of_int (pos 1)
  pub at_goal : (s : ℕ) → s < states_of m → is_marked goals s ≡ true → value_at z s ≡ of_int (pos 1)

-- at a state that is no goal the value is at least, or at most, the sum over the row of each choice
abbrev pub Covers : Mdp → List Bool → List ℚ → Type 0
Covers m goals z = (s c : ℕ) → s < states_of m → is_marked goals s ≡ false → c < length (choices_at m s) → row_sum (row_at m s c) z ≤ℚ value_at z s

abbrev pub IsCovered : Mdp → List Bool → List ℚ → Type 0
IsCovered m goals z = (s c : ℕ) → s < states_of m → is_marked goals s ≡ false → c < length (choices_at m s) → value_at z s ≤ℚ row_sum (row_at m s c) z

-- goals and states of value 0 have rank 0
abbrev pub RanksEnd : Mdp → List Bool → List ℚ → List ℕ → Type 0
RanksEnd m goals z ranks = (s : ℕ) → s < states_of m → (is_marked goals s ≡ true) ⊎ (value_at z s ≡ of_int (pos 0)) → slice_index ranks s ≡ 0

-- at a state of value above 0 that is no goal, an entry of the policy's row leads to a state of value above 0 and smaller rank
abbrev pub PolicyFalls : Mdp → List Bool → List ℚ → List ℕ → List ℕ → Type 0
PolicyFalls m goals z policy ranks =
    (s : ℕ)
    → s < states_of m
    → is_marked goals s ≡ false
    → of_int (pos 0) <ℚ value_at z s
    → Any (λ y. (of_int (pos 0) <ℚ value_at z y.target) × (slice_index ranks y.target < slice_index ranks s)) (row_at m s (slice_index policy s))

-- and an entry of each row leads to a state of smaller rank
abbrev pub EachFalls : Mdp → List Bool → List ℚ → List ℕ → Type 0
EachFalls m goals z ranks =
    (s c : ℕ)
    → s < states_of m
    → is_marked goals s ≡ false
    → of_int (pos 0) <ℚ value_at z s
    → c < length (choices_at m s)
    → Any (λ y. slice_index ranks y.target < slice_index ranks s) (row_at m s c)

pub record MeetsUpper (m : Mdp) (goals : List Bool) (z : List ℚ) : Type 0 where
  pub probabilities : AreProbabilities m goals z
  pub covers : Covers m goals z

pub record MeetsReachMax (m : Mdp) (goals : List Bool) (z : List ℚ) (policy ranks : List ℕ) : Type 0 where
  pub choices : IsPolicy m policy
  pub probabilities : AreProbabilities m goals z
  pub covers : Covers m goals z
  pub reached : (s : ℕ) → s < states_of m → is_marked goals s ≡ false → value_at z s ≤ℚ row_sum (row_at m s (slice_index policy s)) z
  pub ends : RanksEnd m goals z ranks
  pub falls : PolicyFalls m goals z policy ranks

pub record MeetsReachMin (m : Mdp) (goals : List Bool) (z : List ℚ) (policy ranks : List ℕ) : Type 0 where
  pub choices : IsPolicy m policy
  pub probabilities : AreProbabilities m goals z
  pub covered : IsCovered m goals z
  pub reached : (s : ℕ) → s < states_of m → is_marked goals s ≡ false → row_sum (row_at m s (slice_index policy s)) z ≤ℚ value_at z s
  pub ends : RanksEnd m goals z ranks
  pub falls : EachFalls m goals z ranks

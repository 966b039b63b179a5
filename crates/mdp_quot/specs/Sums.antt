-- The sums of a row's entries to each node, while it is merged.
use Rattle.std.specs.{Prelude.{◌≡◌, ℕ, ◌<◌, ◌==◌, cond, List, [], length, sum_by, pos}, List.{All}}
use Rattle.mdp_math.specs.Rational.{ℚ, of_int, le_ℚ}
use Rattle.mdp_spec.specs.Mdp.{Entry, value_at}
use Rattle.mdp_ends.specs.Quotient.{mass_in}

-- how many times a number stands in a list
abbrev pub times : ℕ → List ℕ → ℕ
times q xs = sum_by (λ x. cond (x == q) 1 0) xs

-- the probability of the entries to node q
abbrev pub mass_at : (ℕ → ℕ) → List Entry → ℕ → ℚ
mass_at node row q = mass_in (λ t. node t == q) row

-- for each of n nodes the sum of the entries to it, and each node whose sum is above 0, once
pub record AreSums (n : ℕ) (node : ℕ → ℕ) (row : List Entry) (sums : List ℚ) (seen : List ℕ) : Type 0 where
  pub count : length sums ≡ n
  pub each : (q : ℕ) → q < n → value_at sums q ≡ mass_at node row q
  pub below : All (λ q. q < n) seen
  pub once : (q : ℕ) → times q seen ≡ cond (le_ℚ (mass_at node row q) (of_int (pos 0))) 0 1

-- no entries yet
pub record IsClear (n : ℕ) (sums : List ℚ) (seen : List ℕ) : Type 0 where
  pub count : length sums ≡ n
  pub zeros : (q : ℕ) → value_at sums q ≡ of_int (pos 0)
  pub none : seen ≡ []

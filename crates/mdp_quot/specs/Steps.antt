-- The greatest expected number of exits that can be taken from each node, before a node without exits.
use Rattle.std.specs.Prelude.{◌≡◌, ℕ, ◌<◌, List, length, slice_index, pos, Result}
use Rattle.mdp_math.specs.Rational.{ℚ, of_int, ◌+ℚ◌, ◌≤ℚ◌}
use Rattle.mdp_spec.specs.{Mdp.{value_at}, Row.{row_sum}}
use Rattle.mdp_wide.specs.{declared.too_wide.Part.TheVariants.{Steps}, Term.{WideTerm}}
use Rattle.mdp_quot.specs.{Quotient.{Quotient, IsChosen, exits_at, row_of}, PathEnds.{PathEndsSo}, Problem.{steps_problem, steps_start}}

-- the query ends so: with the values that its path ends with
abbrev pub StepsEndSo : Quotient → Result (List ℚ) WideTerm → Type 0
StepsEndSo q r = PathEndsSo Steps (λ found. found.values) (steps_problem q) (steps_start q) r

-- the exit itself, and what is expected after it
abbrev pub after_exit : Quotient → List ℚ → ℕ → ℕ → ℚ
after_exit q n k i = of_int (pos 1) +ℚ row_sum (row_of q k i) n

-- none at a node without exits; elsewhere at least what each exit gives, and no more than one of them does
pub record IsLongest (q : Quotient) (n : List ℚ) : Type 0 where
  pub count : length n ≡ length q.exits
  pub none : (k : ℕ) → k < length q.exits → length (exits_at q k) ≡ 0 → value_at n k ≡ of_int (pos 0)
  pub each : (k i : ℕ) → k < length q.exits → i < length (exits_at q k) → after_exit q n k i ≤ℚ value_at n k
  pub some : (k : ℕ) → k < length q.exits → 0 < length (exits_at q k) → (i : ℕ) × (i < length (exits_at q k)) × (value_at n k ≡ after_exit q n k i)

-- the expected number of exits from each node where the chosen ones are taken
pub record IsCounted (q : Quotient) (chosen : List ℕ) (x : List ℚ) : Type 0 where
  pub policy : IsChosen q chosen
  pub count : length x ≡ length q.exits
  pub none : (k : ℕ) → k < length q.exits → length (exits_at q k) ≡ 0 → value_at x k ≡ of_int (pos 0)
  pub some : (k : ℕ) → k < length q.exits → 0 < length (exits_at q k) → value_at x k ≡ after_exit q x k (slice_index chosen k)

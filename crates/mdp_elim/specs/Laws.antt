-- What elimination is for: the system of a chain has exactly one solution, and written elimination gives it where no term is past width. The
-- same of expected visits.
use Rattle.std.specs.Prelude.{◌≡◌, ℕ, Bool, List, [], ◌∷◌, length, ◌⊎◌, Ok}
use Rattle.mdp_math.specs.Rational.{ℚ}
use Rattle.mdp_spec.specs.{Mdp.{Entry}, Row.{AreRows}}
use Rattle.mdp_elim.specs.{Elimination.{DividesByPositive}, System.{system, Leaves, IsSolution, SolveEach}, Solve.{written_solution}}
use Rattle.mdp_elim.specs.Visits.{transposed, unit_column, written_visits, AreVisits}

-- a chain that leaves its active states: its rows are distributions, and each state is marked active or not
pub record LeavingChain (rows : List (List Entry)) (active : List Bool) (ranks : List ℕ) : Type 0 where
  pub distributions : AreRows rows
  pub marks : length active ≡ length rows
  pub leaves : Leaves rows active ranks

-- exactly one vector is such a one
abbrev pub ExactlyOne : (List ℚ → Type 0) → Type 0
ExactlyOne P = (x : List ℚ) × P x × ((y : List ℚ) → P y → y ≡ x)

-- ---- x = c + Q x

-- the system of each column has exactly one solution, whatever its terms
abbrev pub HasOneSolution : Type 0
HasOneSolution = (rows : List (List Entry)) (active : List Bool) (ranks : List ℕ) (column : List ℚ) → LeavingChain rows active ranks → ExactlyOne (IsSolution rows active column)

-- each division of its elimination is by a number above 0
abbrev pub HasPositivePivots : Type 0
HasPositivePivots =
    (rows : List (List Entry)) (active : List Bool) (ranks : List ℕ) (columns : List (List ℚ)) → LeavingChain rows active ranks → DividesByPositive (length rows) (system rows active columns)

-- what written elimination gives for one or two columns are the solutions
abbrev pub GivesSolutions : Type 0
GivesSolutions =
    (rows : List (List Entry)) (active : List Bool) (ranks : List ℕ) (columns xs : List (List ℚ)) → LeavingChain rows active ranks
    → (length columns ≡ 1) ⊎ (length columns ≡ 2) → written_solution rows active columns ≡ Ok xs
    → SolveEach rows active columns xs

-- ---- expected visits

-- exactly one vector says how often each active state is visited, whatever its terms
abbrev pub HasOneVisits : Type 0
HasOneVisits = (rows : List (List Entry)) (active : List Bool) (ranks : List ℕ) (start : ℕ) → LeavingChain rows active ranks → ExactlyOne (AreVisits rows active start)

-- each division in the elimination of the transposed rows is by a number above 0
abbrev pub HasPositivePivotsTransposed : Type 0
HasPositivePivotsTransposed =
    (rows : List (List Entry)) (active : List Bool) (ranks : List ℕ) (start : ℕ) → LeavingChain rows active ranks
    → DividesByPositive (length rows) (system (transposed rows) active (unit_column (length rows) start ∷ []))

-- what written elimination gives are the expected visits
abbrev pub GivesVisits : Type 0
GivesVisits =
    (rows : List (List Entry)) (active : List Bool) (ranks : List ℕ) (start : ℕ) (y : List ℚ) → LeavingChain rows active ranks → written_visits rows active start ≡ Ok y → AreVisits rows active start y

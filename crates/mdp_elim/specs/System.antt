-- The system of a chain: for each active state an equation with the entries of its row to active states; any other state has the value 0.
use Rattle.std.specs.Prelude.{◌≡◌, ℕ, ◌<◌, Bool, true, false, List, [], length, map, slice_index, slice_index_or, ◌⊎◌, if◌then◌else◌, pos}
use Rattle.std.specs.List.{Any, filter, range_with_len}
use Rattle.mdp_math.specs.Rational.{ℚ, of_int, ◌+ℚ◌}
use Rattle.mdp_spec.specs.{Mdp.{Entry, value_at}, Row.{row_sum}}
use Rattle.mdp_elim.specs.Equation.{Equation, no_equation}

abbrev pub is_active : List Bool → ℕ → Bool
is_active active s = slice_index_or active s false

abbrev pub row_of : List (List Entry) → ℕ → List Entry
row_of rows s = slice_index_or rows s []

-- the entries to active states
abbrev pub inner : List Bool → List Entry → List Entry
inner active row = filter (λ x. is_active active x.target) row

-- the value of a column at a state; 0 past the last column
abbrev pub column_at : List (List ℚ) → ℕ → ℕ → ℚ
column_at columns k s = value_at (slice_index_or columns k []) s

unfoldable pub equation_of : List (List Entry) → List Bool → List (List ℚ) → ℕ → Equation
equation_of rows active columns s =
    if is_active active s
    then record { entries = inner active (row_of rows s); first = column_at columns 0 s; second = column_at columns 1 s }
    else no_equation

abbrev pub system : List (List Entry) → List Bool → List (List ℚ) → List Equation
system rows active columns = map (equation_of rows active columns) (range_with_len 0 (length rows))

-- each active state has an entry to a state that isn't active, or to an active state of smaller rank
pub record Leaves (rows : List (List Entry)) (active : List Bool) (ranks : List ℕ) : Type 0 where
  pub falls : (s : ℕ) → s < length rows → is_active active s ≡ true → Any (λ x. (is_active active x.target ≡ false) ⊎ (slice_index ranks x.target < slice_index ranks s)) (row_of rows s)

-- x = c + Q x on active states, and x is 0 elsewhere
pub record IsSolution (rows : List (List Entry)) (active : List Bool) (column x : List ℚ) : Type 0 where
  pub len : length x ≡ length rows
  pub inside : (s : ℕ) → is_active active s ≡ true → value_at x s ≡ value_at column s +ℚ row_sum (row_of rows s) x
  pub outside : (s : ℕ) → is_active active s ≡ false → value_at x s ≡ of_int (pos 0)

-- each of the vectors solves its column's system
abbrev pub SolveEach : List (List Entry) → List Bool → List (List ℚ) → List (List ℚ) → Type 0
SolveEach rows active columns xs = (length xs ≡ length columns) × ((k : ℕ) → k < length columns → IsSolution rows active (slice_index_or columns k []) (slice_index_or xs k []))

-- Expected visits: the system of the transposed rows, where the equation of a state has an entry for each active state that leads to it.
use Rattle.std.specs.{Prelude.{◌≡◌, ℕ, Bool, true, false, List, [], ◌∷◌, ◌++◌, length, map, ◌==◌, if◌then◌else◌, Result, pos}, List.{flat_map, range_with_len}}
use Rattle.mdp_math.specs.{Rational.{ℚ, of_int, ◌+ℚ◌, ◌*ℚ◌}, Sum.{sum_of}, Pivot.{entry_at}}
use Rattle.mdp_spec.specs.Mdp.{Entry, value_at}
use Rattle.mdp_elim.specs.{Equation.{Equation, Values, no_equation}, Elimination.{solution}, System.{is_active, row_of, inner, system}, Solve.{kept}}

-- the entry of state t's row to s, as an entry to t
abbrev pub entries_into : ℕ → ℕ → List Entry → List Entry
entries_into s t [] = []
entries_into s t (x ∷ row) = if x.target == s then record { target = t; prob = x.prob } ∷ entries_into s t row else entries_into s t row

-- the entries of all rows to s, in the order of the states
abbrev pub row_into : List (List Entry) → ℕ → List Entry
row_into rows s = flat_map (λ t. entries_into s t (row_of rows t)) (range_with_len 0 (length rows))

abbrev pub transposed : List (List Entry) → List (List Entry)
transposed rows = map (row_into rows) (range_with_len 0 (length rows))

abbrev pub one_at : ℕ → ℕ → ℚ
one_at start s = if s == start then of_int (pos 1) else of_int (pos 0)

-- 1 at the start, 0 at any other state
abbrev pub unit_column : ℕ → ℕ → List ℚ
unit_column n start = map (one_at start) (range_with_len 0 n)

-- the equation of state s, with the entry of state t's row to it if s is active
abbrev pub with_row : List Bool → ℕ → List Entry → ℕ → Equation → Equation
with_row active t row s e = if is_active active s then record { entries = e.entries ++ entries_into s t row; first = e.first; second = e.second } else e

-- the equation of state s before any row is put in: its visits at the start
abbrev pub start_equation : ℕ → ℕ → Equation
start_equation start s = record { entries = []; first = one_at start s; second = of_int (pos 0) }

-- the equation of state s by the rows of the active states below t
abbrev pub visits_below : List (List Entry) → List Bool → ℕ → ℕ → ℕ → Equation
visits_below rows active start t s = if is_active active s then
    record { entries = inner active (flat_map (λ u. entries_into s u (row_of rows u)) (range_with_len 0 t)); first = one_at start s; second = of_int (pos 0) } else no_equation

-- the values of the written elimination, or the first state with a term past width
abbrev pub written_visits : List (List Entry) → List Bool → ℕ → Result (List ℚ) ℕ
written_visits rows active start = kept Values.first (solution (length rows) (system (transposed rows) active (unit_column (length rows) start ∷ [])))

-- the probability to step from t to s
abbrev pub step : List (List Entry) → ℕ → ℕ → ℚ
step rows t s = entry_at (λ x. x.target) (λ x. x.prob) (row_of rows t) s

-- how often each active state is visited: once at the start, and after the visits of the states that lead to it
pub record AreVisits (rows : List (List Entry)) (active : List Bool) (start : ℕ) (y : List ℚ) : Type 0 where
  pub len : length y ≡ length rows
  pub inside : (s : ℕ) → is_active active s ≡ true → value_at y s ≡ one_at start s +ℚ sum_of (λ t. step rows t s *ℚ value_at y t) (range_with_len 0 (length rows))
  pub outside : (s : ℕ) → is_active active s ≡ false → value_at y s ≡ of_int (pos 0)

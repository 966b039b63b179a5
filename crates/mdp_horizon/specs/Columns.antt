-- Two columns of values, with so many steps left, and the choices of a table: the covering column is rounded so that no policy is better than
-- it, the following one the other way, and the table takes the choices that are best by the following column.
use Rattle.std.specs.Prelude.{ℕ, zero, suc, Bool, true, false, List, [], ◌∷◌, map, drop, Option, Some, None, ℤ, pos, int_lt, slice_index_or, if◌then◌else◌}
use Rattle.std.specs.List.{range_with_len}
use Rattle.mdp_math.specs.{Rational.{ℚ}, Written.{◌>>=◌, narrow_ℚ}}
use Rattle.mdp_spec.specs.{Mdp.{Choice, Mdp, states_of, choices_at}, Tree.{is_marked}}
use Rattle.mdp_rows.specs.{declared.dir.Dir.{Dir}, declared.dir.Dir.TheVariants.{Max, Min}}
use Rattle.mdp_horizon.specs.{Objective.{Objective, gain_of}, Objective.Objective.{until, total}, declared.leader.Leader.{Leader}}
use Rattle.mdp_horizon.specs.{Whole.{in_units, opposite, farther}, Scaled.{Scaled, no_scale, scaled, or_else, rounded_sum}}

-- ---- a state

-- the value of a state at which nothing more happens, and of one with no step left, in units
abbrev pub stopped : ℤ → Objective → ℕ → Option ℤ
stopped one (until stay goals) s = if is_marked goals s then Some one else if is_marked stay s then None else Some (pos 0)
stopped one (total r) s = None

abbrev pub ended : ℤ → Objective → ℕ → ℤ
ended one (until stay goals) s = if is_marked goals s then one else pos 0
ended one (total r) s = pos 0

abbrev pub scaled_choice : ℤ → Objective → Choice → Scaled
scaled_choice one o x = scaled one (gain_of o x) x.row

abbrev pub scaled_state : ℤ → Mdp → Objective → ℕ → List Scaled
scaled_state one m o s = map (scaled_choice one o) (choices_at m s)

abbrev pub no_scaled : Scaled
no_scaled = record { scale = no_scale; terms = []; low = None; high = None }

-- the farthest of the choices' sums; nothing where one of them is missing
abbrev pub covered_with : Dir → List (Option ℤ) → ℤ → Scaled → Option ℤ
covered_with dir column far x = rounded_sum dir column x >>= (λ k. Some (farther dir far k))

abbrev pub covered_from : Dir → List (Option ℤ) → ℤ → List Scaled → Option ℤ
covered_from dir column far [] = Some far
covered_from dir column far (x ∷ xs) = covered_with dir column far x >>= (λ far. covered_from dir column far xs)

abbrev pub covered : Dir → List (Option ℤ) → List Scaled → Option ℤ
covered dir column xs = rounded_sum dir column (slice_index_or xs 0 no_scaled) >>= (λ far. covered_from dir column far (drop 1 xs))

-- a sum is strictly better than another one; a missing one is worse than each
abbrev pub is_ahead : Dir → Option ℤ → Option ℤ → Bool
is_ahead dir None old = false
is_ahead dir (Some k) None = true
is_ahead Max (Some k) (Some j) = int_lt j k
is_ahead Min (Some k) (Some j) = int_lt k j

abbrev pub judged : Dir → ℕ → Leader → Option ℤ → Leader
judged dir c leader sum = if is_ahead dir sum leader.value then record { value = sum; choice = c } else leader

-- the first choice with the best sum, rounded the other way
abbrev pub followed_from : Dir → List (Option ℤ) → ℕ → Leader → List Scaled → Leader
followed_from dir column c leader [] = leader
followed_from dir column c leader (x ∷ xs) = followed_from dir column (suc c) (judged dir c leader (rounded_sum (opposite dir) column x)) xs

abbrev pub followed : Dir → List (Option ℤ) → List Scaled → Leader
followed dir column xs = followed_from dir column 1 (record { value = rounded_sum (opposite dir) column (slice_index_or xs 0 no_scaled); choice = 0 }) (drop 1 xs)

-- choice 0 where none is taken
abbrev pub leader_or : Option ℤ → Leader → Leader
leader_or (Some k) leader = record { value = Some k; choice = 0 }
leader_or None leader = leader

-- ---- all states

module _ (dir : Dir) (one : ℤ) (m : Mdp) (o : Objective) where
  abbrev pub cover_at : List (Option ℤ) → ℕ → Option ℤ
  cover_at column s = or_else (stopped one o s) (covered dir column (scaled_state one m o s))

  abbrev pub follow_at : List (Option ℤ) → ℕ → Leader
  follow_at column s = leader_or (stopped one o s) (followed dir column (scaled_state one m o s))

  abbrev pub end_column : List (Option ℤ)
  end_column = map (λ s. Some (ended one o s)) (range_with_len 0 (states_of m))

  abbrev pub cover_next : List (Option ℤ) → List (Option ℤ)
  cover_next column = map (cover_at column) (range_with_len 0 (states_of m))

  abbrev pub follow_next : List (Option ℤ) → List (Option ℤ)
  follow_next column = map (λ s. (follow_at column s).value) (range_with_len 0 (states_of m))

  abbrev pub choices_next : List (Option ℤ) → List ℕ
  choices_next column = map (λ s. (follow_at column s).choice) (range_with_len 0 (states_of m))

  -- with so many steps left
  abbrev pub cover : ℕ → List (Option ℤ)
  cover zero = end_column
  cover (suc n) = cover_next (cover n)

  abbrev pub follow : ℕ → List (Option ℤ)
  follow zero = end_column
  follow (suc n) = follow_next (follow n)

  -- the choices of each step, those of the first step first
  abbrev pub table : ℕ → List (List ℕ)
  table zero = []
  table (suc n) = choices_next (follow n) ∷ table n

-- ---- as fractions

-- a value that is too wide as a fraction is missing
abbrev pub shown : ℤ → Option ℤ → Option ℚ
shown one value = value >>= (λ k. narrow_ℚ (in_units one k))

-- lower and upper values, and the table
pub record Bounds : Type 0 where
  pub lower : List (Option ℚ)
  pub upper : List (Option ℚ)
  pub steps : List (List ℕ)

unfoldable pub bounds_of : Dir → ℤ → Mdp → Objective → ℕ → Bounds
bounds_of Max one m o n = record { lower = map (shown one) (follow Max one m o n); upper = map (shown one) (cover Max one m o n); steps = table Max one m o n }
bounds_of Min one m o n = record { lower = map (shown one) (cover Min one m o n); upper = map (shown one) (follow Min one m o n); steps = table Min one m o n }

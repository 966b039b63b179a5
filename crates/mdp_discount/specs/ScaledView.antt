-- The discounted rows in the code, without where their slices lie: for each state and choice the row, or nothing where a term is past width.
use Rattle.std.specs.{Prelude.{◌≡◌, ℕ, List, map, length, Option, Some, None, if◌then◌else◌}, List.{range_with_len}, Option.{option_map}}
use Rattle.std.specs.Coded.{Coded, Coded-set, coded_list, coded_option}
use Rattle.mdp_math.specs.Rational.{ℚ}
use Rattle.mdp_spec.specs.{Mdp.{Entry, Mdp, states_of, choices_at, row_at}, Row.{entries}}
use Rattle.mdp_rows.specs.{Code.{entry_code}, declared.row.Row.{Row}}
use Rattle.mdp_discount.specs.{Problem.{scaled_entries, discounted_row, products_fit, row_fits}, declared.scaled.Entries.{Entries}}
use Rattle.mdp_discount.specs.declared.scaled.StateRows.{StateRows}

abbrev pub row_in : Row → List Entry
row_in r = entries r.targets.now r.probs.now

abbrev pub rows_in : StateRows → List (Option (List Entry))
rows_in x = map (option_map row_in) x.rows.now

abbrev pub entries_in : Entries → List Entry
entries_in x = entries x.targets.items x.probs.items

-- the entries of a row taken f times, where their terms are in width
abbrev pub products : ℚ → List Entry → Option (List Entry)
products f row = if products_fit f row then Some (scaled_entries f row) else None

-- the row of a choice, where its terms are in width
abbrev pub scaled_row : ℕ → ℚ → List Entry → Option (List Entry)
scaled_row n f row = if row_fits f row then Some (discounted_row n f row) else None

-- the rows of state s
abbrev pub scaled_rows : Mdp → ℚ → ℕ → List (Option (List Entry))
scaled_rows m f s = map (λ c. scaled_row (states_of m) f (row_at m s c)) (range_with_len 0 (length (choices_at m s)))

-- these are the rows of all states
abbrev pub AreScaled : Mdp → ℚ → List StateRows → Type 0
AreScaled m f states = map rows_in states ≡ map (scaled_rows m f) (range_with_len 0 (states_of m))

abbrev scaled_code : Coded (List (List (Option (List Entry))))
scaled_code = coded_list (coded_list (coded_option (coded_list entry_code)))

-- which is so in one way
pub AreScaled-prop : (m : Mdp) (f : ℚ) (states : List StateRows) → IsProp (AreScaled m f states)
AreScaled-prop m f states = Coded-set scaled_code (map rows_in states) (map (scaled_rows m f) (range_with_len 0 (states_of m)))

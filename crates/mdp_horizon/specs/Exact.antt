-- What the rounded sum of a choice says of its exact sum.
use Rattle.std.specs.Prelude.{◌≡◌, ℕ, ◌<◌, List, length, Option, Some, ℤ, pos, ◌<ℤ◌}
use Rattle.mdp_math.specs.Rational.{ℚ, ◌+ℚ◌, ◌≤ℚ◌, ◌<ℚ◌}
use Rattle.mdp_spec.specs.{Mdp.{Entry}, Row.{IsRow, row_sum}, Bounds.{finite_part}}
use Rattle.mdp_rows.specs.{declared.dir.Dir.{Dir}, declared.dir.Dir.TheVariants.{Max, Min}}
use Rattle.mdp_horizon.specs.{Whole.{in_units, fractions}, Scaled.{Scaled, scaled, total_of}}

-- y is at least x for Max, and at most x for Min
abbrev pub LiesBeyond : Dir → ℚ → ℚ → Type 0
LiesBeyond Max x y = x ≤ℚ y
LiesBeyond Min x y = y ≤ℚ x

-- less than u apart
abbrev pub IsWithin : ℚ → ℚ → ℚ → Type 0
IsWithin u x y = (x <ℚ y +ℚ u) × (y <ℚ x +ℚ u)

-- what a choice earns at once, and then by the values of a column of units
abbrev pub exact_sum : ℕ → ℚ → List Entry → List (Option ℤ) → ℚ
exact_sum one start row column = start +ℚ row_sum row (finite_part (fractions (pos one) column))

-- k units lie on the side of the exact sum of each choice that x is in whole numbers
abbrev pub SumLiesBeyond : Dir → List (Option ℤ) → Scaled → ℤ → Type 0
SumLiesBeyond side column x k =
    (one : ℕ) (start : ℚ) (row : List Entry)
    → 0 < one → IsRow (length column) row → x ≡ scaled (pos one) start row → LiesBeyond side (exact_sum one start row column) (in_units (pos one) k)

-- the row has room: a common denominator, what is earned at once times it, and each product and sum over the column stay within 127 bits
abbrev pub HasRoom : List (Option ℤ) → Scaled → Type 0
HasRoom column x = (pos 0 <ℤ x.scale.common) × ((n : ℤ) × (total_of column x.scale.start x.terms ≡ Some n))

-- and then they are less than one unit from it
abbrev pub SumIsWithin : List (Option ℤ) → Scaled → ℤ → Type 0
SumIsWithin column x k =
    (one : ℕ) (start : ℚ) (row : List Entry)
    → 0 < one → IsRow (length column) row → x ≡ scaled (pos one) start row → IsWithin (in_units (pos one) (pos 1)) (exact_sum one start row column) (in_units (pos one) k)

-- Values in whole numbers of units, of which `one` make 1, and how they are rounded. The side says where to: up for Max, down for Min.
use Rattle.std.specs.{Prelude.{ℕ, List, map, Option, Some, ℤ, pos, neg_ℤ, int_lt, unsigned_abs, slice_index_or, if◌then◌else◌}, Option.{option_map}}
use Rattle.std.specs.Int.{int_div_euclid}
use Rattle.mdp_math.specs.Rational.{ℚ, ratio}
use Rattle.mdp_rows.specs.{declared.dir.Dir.{Dir}, declared.dir.Dir.TheVariants.{Max, Min}}

-- k units
abbrev pub in_units : ℤ → ℤ → ℚ
in_units one k = ratio k (unsigned_abs one)

-- a column of values as fractions; a value that is missing stays so
abbrev pub fractions : ℤ → List (Option ℤ) → List (Option ℚ)
fractions one column = map (option_map (in_units one)) column

abbrev pub whole_at : List (Option ℤ) → ℕ → Option ℤ
whole_at column s = slice_index_or column s (Some (pos 0))

abbrev pub opposite : Dir → Dir
opposite Max = Min
opposite Min = Max

-- n/d, rounded to the side
abbrev pub rounded : Dir → ℤ → ℤ → ℤ
rounded Max n d = neg_ℤ (int_div_euclid (neg_ℤ n) d)
rounded Min n d = int_div_euclid n d

-- the one of two numbers that lies farther to the side
abbrev pub farther : Dir → ℤ → ℤ → ℤ
farther Max x y = if int_lt x y then y else x
farther Min x y = if int_lt y x then y else x

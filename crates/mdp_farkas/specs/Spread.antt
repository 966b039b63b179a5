-- The spread of two lists of values, by written operations: the greater of their ranges.
use Rattle.std.specs.Prelude.{List, [], ◌∷◌, Option, Some, if◌then◌else◌}
use Rattle.mdp_math.specs.{Rational.{ℚ}, Written.{written_compare, ◌>>=◌}}
use Rattle.mdp_num.specs.Written.{written_sub}
use Rattle.mdp_farkas.specs.Compare.{0ℚ}
use Rattle.mdp_rows.specs.{declared.dir.Dir.{Dir}, Better.{is_better}, declared.dir.Dir.TheVariants.{Max, Min}}

-- the best of these, from a first one on: each is compared with the best before it
abbrev pub written_best : Dir → ℚ → List ℚ → Option ℚ
written_best dir best [] = Some best
written_best dir best (x ∷ xs) = do
  order ← written_compare x best
  written_best dir (if is_better dir order then x else best) xs

-- the greatest or the least of a list; 0 of none
abbrev pub written_extreme : Dir → List ℚ → Option ℚ
written_extreme dir [] = Some 0ℚ
written_extreme dir (x ∷ xs) = written_best dir x xs

-- the greatest value less the least
abbrev pub written_width : List ℚ → Option ℚ
written_width z = do
  high ← written_extreme Max z
  low ← written_extreme Min z
  written_sub high low

abbrev pub written_spread : List ℚ → List ℚ → Option ℚ
written_spread a b = do
  first ← written_width a
  second ← written_width b
  written_best Max first (second ∷ [])

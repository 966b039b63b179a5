-- The written sum of a row: additions and products in the order of the row's targets, or nothing where one of their terms is past width.
use Rattle.std.specs.Prelude.{List, [], ◌∷◌, Option, Some}
use Rattle.mdp_math.specs.{Rational.{ℚ}, Written.{written_add, written_mul, ◌>>=◌}}
use Rattle.mdp_spec.specs.Mdp.{Entry, value_at}

-- acc, and for each entry its probability times the value of its target
abbrev pub written_sum : List ℚ → ℚ → List Entry → Option ℚ
written_sum z acc [] = Some acc
written_sum z acc (x ∷ row) = do
  term ← written_mul x.prob (value_at z x.target)
  sum ← written_add acc term
  written_sum z sum row

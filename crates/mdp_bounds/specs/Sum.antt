-- Sums over rows that make no written term where none is needed, and the exact order of a value and a sum.
use Rattle.std.specs.{Prelude.{ℕ, Bool, List, [], ◌∷◌, map, Option, Some, None, pos, if◌then◌else◌}, List.{list_all}}
use Rattle.mdp_math.specs.{Rational.{ℚ, of_int, le_ℚ}, Written.{written_add}}
use Rattle.mdp_num.specs.Equal.{eq_ℚ}
use Rattle.mdp_spec.specs.{Mdp.{Entry, value_at}, Written.{written_sum}}
use Rattle.mdp_farkas.specs.Compare.{0ℚ}
use Rattle.mdp_rows.specs.{declared.dir.Dir.{Dir}, declared.dir.Dir.TheVariants.{Max, Min}}

-- how a value stands to a sum: at least for Max, at most for Min
abbrev pub stands : Dir → ℚ → ℚ → Bool
stands Max value sum = le_ℚ sum value
stands Min value sum = le_ℚ value sum

-- the value of the first target; 0 where there is none
abbrev pub first_value : List ℚ → List ℕ → ℚ
first_value z [] = of_int (pos 0)
first_value z (t ∷ ts) = value_at z t

-- whether all targets have the value of the first
abbrev pub have_one_value : List ℚ → List ℕ → Bool
have_one_value z ts = list_all (λ t. eq_ℚ (value_at z t) (first_value z ts)) ts

-- the sum, or nothing where one of its terms is past width: where one of the two is 0 it has no term
abbrev pub plain_add : ℚ → ℚ → Option ℚ
plain_add x y = if eq_ℚ x 0ℚ then Some y else (if eq_ℚ y 0ℚ then Some x else written_add x y)

abbrev pub targets_of : List Entry → List ℕ
targets_of row = map (λ y. y.target) row

-- start and the one value that all targets have, since probabilities add to 1; nothing where they have more values, or where it has a term past width
abbrev pub one_sum : List ℚ → ℚ → List ℕ → Option ℚ
one_sum z start ts = if have_one_value z ts then plain_add start (first_value z ts) else None

-- the first of two sums that has no term past width
abbrev pub or_else : Option ℚ → Option ℚ → Option ℚ
or_else (Some x) next = Some x
or_else None next = next

-- start and the sum over the row: by the one value of all targets, or else by written terms
abbrev pub told_sum : List ℚ → ℚ → List Entry → Option ℚ
told_sum z start row = or_else (one_sum z start (targets_of row)) (written_sum z start row)

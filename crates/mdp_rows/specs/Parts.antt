-- A row's values in parts of a common denominator.
use Rattle.std.specs.Prelude.{ℕ, ◌*◌, ◌/◌, List, sum_by, unsigned_abs}
use Rattle.mdp_rows.specs.declared.given.Given.{Given}

-- how many parts of 1/d a value is, and all of a row
abbrev pub part : ℕ → Given → ℕ
part d g = d / g.value.den * unsigned_abs g.value.num

abbrev pub parts : ℕ → List Given → ℕ
parts d row = sum_by (part d) row

-- An equation of a linear system: x(s) is a constant, and the sum over the entries of each entry times the value of its target. There are
-- two constants, one for each of two systems with the same entries.
use Rattle.std.specs.Prelude.{List, [], pos}
use Rattle.mdp_math.specs.Rational.{ℚ, of_int}
use Rattle.mdp_spec.specs.Mdp.{Entry}

pub record Equation : Type 0 where
  pub entries : List Entry
  pub first : ℚ
  pub second : ℚ

-- x(s) is 0
abbrev pub no_equation : Equation
no_equation = record { entries = []; first = of_int (pos 0); second = of_int (pos 0) }

-- the values of the states from 0 on, in both systems
pub record Values : Type 0 where
  pub first : List ℚ
  pub second : List ℚ

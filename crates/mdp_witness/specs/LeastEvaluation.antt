-- The evaluation of a set of states for the least probability: the query of its subsystem, in written arithmetic.
use Rattle.std.specs.Prelude.{ℕ, Bool, List, Result}
use Rattle.mdp_math.specs.Rational.{ℚ}
use Rattle.mdp_spec.specs.{Mdp.{Mdp, value_at}, Sub.{sub_of}}
use Rattle.mdp_rows.specs.declared.dir.Dir.TheVariants.{Min}
use Rattle.mdp_wide.specs.Term.{WideTerm}
use Rattle.mdp_reach.specs.Query.{Answer, EndsSo}

abbrev pub Evaluates : Mdp → List Bool → List Bool → Result Answer WideTerm → Type 0
Evaluates m goals set r = EndsSo Min (sub_of m goals set) goals r

-- the value that is held against the threshold
abbrev pub value_from : ℕ → Answer → ℚ
value_from start a = value_at a.values start

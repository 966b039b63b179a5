-- Bellman's inequality, by written operations: how the value of a state stands to the sum over the row of a choice.
use Rattle.std.specs.Prelude.{ℕ, Bool, List, Option}
use Rattle.mdp_math.specs.{Rational.{ℚ}, Written.{◌>>=◌}}
use Rattle.mdp_spec.specs.{Mdp.{Entry, Mdp, row_at, value_at}, Written.{written_sum}}
use Rattle.mdp_farkas.specs.{Compare.{0ℚ, is_at_least, is_at_most}, Verdict.{Check, at_choice, at_choices}}
use Rattle.mdp_rows.specs.{declared.dir.Dir.{Dir}, declared.dir.Dir.TheVariants.{Max, Min}}
use Rattle.mdp_claims.specs.declared.rule.Rule.TheVariants.{ValueOnEachChoice}

-- how a value stands to a sum: at least for Max, at most for Min
abbrev pub stands : Dir → ℚ → ℚ → Option Bool
stands Max value sum = is_at_least value sum
stands Min value sum = is_at_most value sum

-- the same to acc and the sum over a row
abbrev pub sum_stands : Dir → ℚ → List ℚ → ℚ → List Entry → Option Bool
sum_stands dir value z acc row = written_sum z acc row >>= stands dir value

abbrev pub stands_at : Dir → Mdp → List ℚ → ℕ → ℕ → Option Bool
stands_at dir m z s c = sum_stands dir (value_at z s) z 0ℚ (row_at m s c)

-- rule 5
abbrev pub bound_check : Dir → Mdp → List ℚ → ℕ → ℕ → Check
bound_check dir m z s c = at_choice ValueOnEachChoice s c (stands_at dir m z s c)

abbrev pub bound_checks : Dir → Mdp → List ℚ → ℕ → List Check
bound_checks dir m z s = at_choices m s (bound_check dir m z s)

-- The sum of a choice, made and compared by written arithmetic.
use Rattle.std.specs.Prelude.{ℕ, List, Option, pos}
use Rattle.mdp_math.specs.{Rational.{ℚ, of_int}, Written.{◌>>=◌}}
use Rattle.mdp_spec.specs.{Mdp.{Mdp, row_at}, Written.{written_sum}}
use Rattle.mdp_rows.specs.declared.dir.Dir.{Dir}
use Rattle.mdp_policy_iteration.specs.Candidates.{Best, judged}

-- the sum of choice c of state s over the values x
abbrev pub sum_of_choice : Mdp → List ℚ → ℕ → ℕ → Option ℚ
sum_of_choice m x s c = written_sum x (of_int (pos 0)) (row_at m s c)

-- it takes the place of the best value so far where it is strictly better
abbrev pub compared : Dir → Mdp → List ℚ → ℕ → ℕ → Best → Option Best
compared dir m x s c best = sum_of_choice m x s c >>= judged dir c best

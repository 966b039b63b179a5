-- The sums of a state's choices, made and compared by written arithmetic.
use Rattle.std.specs.Prelude.{ℕ, List, Option, Some, if◌then◌else◌}
use Rattle.mdp_math.specs.{Rational.{ℚ}, Written.{written_compare, ◌>>=◌}}
use Rattle.mdp_spec.specs.{Mdp.{Mdp, row_at}, Written.{written_sum}}
use Rattle.mdp_rows.specs.{declared.dir.Dir.{Dir}, Better.{is_better}}
use Rattle.mdp_horizon.specs.Objective.{Objective, earns}

-- the value of a state, and the choice that has it
pub record Best : Type 0 where
  pub value : ℚ
  pub choice : ℕ

abbrev pub best : ℚ → ℕ → Best
best value choice = record { value = value; choice = choice }

-- the sum of choice c takes the place of the best one where it is strictly better
abbrev pub judged : Dir → ℕ → Best → ℚ → Option Best
judged dir c leader sum = written_compare sum leader.value >>= (λ order. Some (if is_better dir order then best sum c else leader))

-- what choice c of state s earns, and then its sum over the values z of the states behind it
abbrev pub sum_of_choice : Mdp → Objective → List ℚ → ℕ → ℕ → Option ℚ
sum_of_choice m o z s c = written_sum z (earns m o s c) (row_at m s c)

-- choice c is summed up, and compared before the next one is
abbrev pub compared : Dir → Mdp → Objective → List ℚ → ℕ → ℕ → Best → Option Best
compared dir m o z s c leader = sum_of_choice m o z s c >>= judged dir c leader

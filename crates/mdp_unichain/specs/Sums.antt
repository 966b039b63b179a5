-- The written terms of a round: the gain and the bias from what is earned and from the number of steps, and what a choice is worth. Nothing where a term is
-- past width.
use Rattle.std.specs.Prelude.{ℕ, List, Option, Some, if◌then◌else◌, pos}
use Rattle.mdp_math.specs.{Rational.{ℚ, of_int}, Written.{written_mul, ◌>>=◌}}
use Rattle.mdp_num.specs.Written.{written_sub, written_div}
use Rattle.mdp_spec.specs.Written.{written_sum}
use Rattle.mdp_rows.specs.declared.dir.Dir.{Dir}
use Rattle.mdp_policy_iteration.specs.Candidates.{Best, judged}
use Rattle.mdp_unichain.specs.Component.{Component, Choice, row_by, reward_by}

-- what is earned from t back to t, by the number of steps
abbrev pub written_ratio : Component → List ℕ → ℕ → List ℚ → List ℚ → Option ℚ
written_ratio p policy t x y = do
  earned ← written_sum x (reward_by p policy t) (row_by p policy t)
  steps ← written_sum y (of_int (pos 1)) (row_by p policy t)
  written_div earned steps

abbrev pub written_bias : ℚ → ℚ → ℚ → Option ℚ
written_bias gain x y = do
  paid ← written_mul gain y
  written_sub x paid

-- what a choice is worth under a bias
abbrev pub written_worth : List ℚ → Choice → Option ℚ
written_worth bias choice = written_sum bias choice.reward choice.row

-- a choice of the component is taken where it is strictly better
abbrev pub compared : Dir → List ℚ → ℕ → Choice → Best → Option Best
compared dir bias c choice best = if choice.inner then (written_worth bias choice >>= judged dir c best) else Some best

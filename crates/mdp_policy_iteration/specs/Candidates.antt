-- Candidates of a node, compared with the best value so far.
use Rattle.std.specs.Prelude.{ℕ, List, Option, Some, if◌then◌else◌}
use Rattle.mdp_math.specs.{Rational.{ℚ}, Written.{written_compare, ◌>>=◌}}
use Rattle.mdp_rows.specs.{declared.dir.Dir.{Dir}, Better.{is_better}}
use Rattle.mdp_policy_iteration.specs.Problem.{Choice}

-- the best value at a node so far, and the choice that has it where it isn't the node's own
pub record Best : Type 0 where
  pub value : ℚ
  pub choice : Option ℕ

-- a value takes the place of the best one where it is strictly better
abbrev pub judged : Dir → ℕ → Best → ℚ → Option Best
judged dir c best sum = written_compare sum best.value >>= (λ order. Some (if is_better dir order then record { value = sum; choice = Some c } else best))

-- choice c is looked at where it is a candidate
abbrev pub compared : Dir → List ℚ → ℕ → Choice → Best → Option Best
compared dir x c choice best = if choice.candidate then (choice.written x >>= judged dir c best) else Some best

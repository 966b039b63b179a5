-- What is asked of a written sum is asked of the sum.
use Rattle.std.proofs.Common.{◌≡◌, Bool, List, Option, ap, ◌∙◌, pos}
use Rattle.std.specs.Option.{IsSome, option_and_then}
use Rattle.mdp_math.specs.Rational.{ℚ, of_int, ◌+ℚ◌}
use Rattle.mdp_math.proofs.Laws.{zero-+ℚ}
use Rattle.mdp_spec.specs.{Mdp.{Entry}, Row.{row_sum}, Written.{written_sum}}
use Rattle.mdp_spec.proofs.Summed.{written_sum-some}
use Rattle.mdp_farkas.proofs.Asking.{asked}

-- what is asked of a written sum is asked of the sum
pub summed_from : (f : ℚ → Option Bool) (z : List ℚ) (acc : ℚ) (row : List Entry) → IsSome (option_and_then f (written_sum z acc row))
    → option_and_then f (written_sum z acc row) ≡ f (acc +ℚ row_sum row z)
summed_from f z acc row h = asked f (acc +ℚ row_sum row z) (written_sum z acc row) (λ v e. written_sum-some z acc row v e) h

pub summed : (f : ℚ → Option Bool) (z : List ℚ) (row : List Entry) → IsSome (option_and_then f (written_sum z (of_int (pos 0)) row))
    → option_and_then f (written_sum z (of_int (pos 0)) row) ≡ f (row_sum row z)
summed f z row h = summed_from f z (of_int (pos 0)) row h ∙ ap f (zero-+ℚ (row_sum row z))

use Rattle.std.proofs.Common.{◌≡◌, Ok}
use Rattle.mdp_farkas.specs.Compare.{0ℚ}
use Rattle.mdp_mean.specs.{Code.{joining_in}, Join.{steps_to, after_state}}
use Rattle.mdp_mean.proofs.excess.greatest_excess.Given as goal

abbrev pub invariant-loop-s : goal.invariant-loop-s
invariant-loop-s l = steps_to (after_state (joining_in l.join)) 0ℚ l.s ≡ Ok l.excess

use Rattle.std.proofs.Common.{◌≡◌, Ok}
use Rattle.mdp_mean.specs.{Code.{joining_in}, Join.{steps_to, after_choice}}
use Rattle.mdp_mean.proofs.excess.after_state.Given as goal

abbrev pub invariant-loop-c : goal.invariant-loop-c
invariant-loop-c l = steps_to (after_choice (joining_in l.join) l.s) l.fn.greatest l.c ≡ Ok l.excess

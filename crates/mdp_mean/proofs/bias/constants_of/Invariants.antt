use Rattle.std.proofs.Common.{◌≡◌, Ok}
use Rattle.mdp_policy_iteration.specs.Places.{up_to}
use Rattle.mdp_mean.specs.{Code.{joining_in}, Join.{constant}}
use Rattle.mdp_mean.proofs.bias.constants_of.Given as goal

abbrev pub invariant-loop-s : goal.invariant-loop-s
invariant-loop-s l = up_to (constant (joining_in l.join)) l.s ≡ Ok l.constants.items

use Rattle.std.proofs.Common.{◌≡◌, Ok}
use Rattle.mdp_policy_iteration.specs.Places.{up_to}
use Rattle.mdp_gain.specs.Policies.{bias_in}
use Rattle.mdp_gain.proofs.evaluation.Columns.biases.Given as goal

abbrev pub invariant-loop-s : goal.invariant-loop-s
invariant-loop-s l = up_to (bias_in l.self l.gain) l.s ≡ Ok l.biases.items

use Rattle.std.proofs.Common.{◌≡◌, Ok}
use Rattle.mdp_policy_iteration.specs.Places.{up_to}
use Rattle.mdp_mean.specs.{Code.{joining_in}, Join.{bound_at}}
use Rattle.mdp_mean.proofs.bound.bound_of.Given as goal

abbrev pub invariant-loop-s : goal.invariant-loop-s
invariant-loop-s l = up_to (bound_at (joining_in l.join) l.excess) l.s ≡ Ok l.values.items

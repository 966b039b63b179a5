use Rattle.std.proofs.Common.{◌≡◌, take}
use Rattle.mdp_horizon.specs.Short.{known}
use Rattle.mdp_horizon.proofs.column.widened.Given as goal

abbrev pub invariant-loop-value : goal.invariant-loop-value
invariant-loop-value l = l.wide.items ≡ known (take l.value-index l.values)

use Rattle.std.proofs.Common.{◌<◌}
use Rattle.mdp_rows.proofs.row.Row.denominators.Given as goal

abbrev pub invariant-loop-i : goal.invariant-loop-i
invariant-loop-i g l = (0 < l.probs) × (0 < l.others)

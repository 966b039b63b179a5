use Rattle.std.proofs.Common.{◌≡◌, drop}
use Rattle.mdp_spec.specs.{Row.{entries}, Written.{written_sum}}
use Rattle.mdp_policy_iteration.specs.Path.{outer}
use Rattle.mdp_policy_iteration.proofs.outer.outer_sum.Given as goal

abbrev pub invariant-loop-i : goal.invariant-loop-i
invariant-loop-i l =
    written_sum l.values l.fn.start (outer l.active (entries l.row.targets.now l.row.probs.now)) ≡ written_sum l.values l.sum
    (outer l.active (entries (drop l.i l.row.targets.now) (drop l.i l.row.probs.now)))

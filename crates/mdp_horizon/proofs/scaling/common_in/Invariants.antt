use Rattle.std.proofs.Common.{◌≡◌, ◌<◌, ◌^◌, drop, unsigned_abs}
use Rattle.mdp_spec.specs.Row.{entries}
use Rattle.mdp_horizon.specs.Scaled.{common_in}
use Rattle.mdp_horizon.proofs.scaling.common_in.Given as goal

abbrev pub invariant-loop-i : goal.invariant-loop-i
invariant-loop-i l = record {
  rest :
      common_in l.fn.first (entries l.row.targets.now l.row.probs.now) ≡ common_in l.common (entries (drop l.i l.row.targets.now) (drop l.i l.row.probs.now));
  narrow : unsigned_abs l.common < 2 ^ 127;
}

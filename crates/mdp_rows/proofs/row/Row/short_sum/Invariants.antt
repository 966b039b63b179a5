use Rattle.std.proofs.Common.{◌≡◌, ◌<◌, ◌*◌, ◌^◌, unsigned_abs, drop}
use Rattle.mdp_math.specs.Rational.{ratio}
use Rattle.mdp_spec.specs.{Row.{entries}, Written.{written_sum}}
use Rattle.mdp_rows.proofs.row.Row.short_sum.Given as goal

abbrev pub invariant-loop-i : goal.invariant-loop-i
invariant-loop-i g l =
    (written_sum (g.V.ValuesOf.values l.values) l.start (entries l.self.targets.now l.self.probs.now)
    ≡ written_sum (g.V.ValuesOf.values l.values) (ratio l.sum (l.shared.probs * l.shared.values)) (entries (drop l.i l.self.targets.now) (drop l.i l.self.probs.now)))
    × (unsigned_abs l.sum < 2 ^ 127)

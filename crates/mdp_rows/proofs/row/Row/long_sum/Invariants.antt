use Rattle.std.proofs.Common.{◌≡◌, drop}
use Rattle.mdp_spec.specs.{Row.{entries}, Written.{written_sum}}
use Rattle.mdp_rows.proofs.row.Row.long_sum.Given as goal

abbrev pub invariant-loop-i : goal.invariant-loop-i
invariant-loop-i g l =
    written_sum (g.V.ValuesOf.values l.values) l.fn.start (entries l.self.targets.now l.self.probs.now)
    ≡ written_sum (g.V.ValuesOf.values l.values) l.sum (entries (drop l.i l.self.targets.now) (drop l.i l.self.probs.now))

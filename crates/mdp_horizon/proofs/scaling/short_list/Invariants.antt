use Rattle.std.proofs.Common.{◌≡◌, ◌++◌, drop}
use Rattle.mdp_spec.specs.Row.{entries}
use Rattle.mdp_horizon.specs.{Scaled.{terms_of}, Short.{wide_terms}}
use Rattle.mdp_horizon.proofs.scaling.short_list.Given as goal

abbrev pub invariant-loop-i : goal.invariant-loop-i
invariant-loop-i l =
    wide_terms l.terms.items ++ terms_of l.common (entries (drop l.i l.row.targets.now) (drop l.i l.row.probs.now)) ≡ terms_of l.common (entries l.row.targets.now l.row.probs.now)

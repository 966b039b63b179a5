use Rattle.std.proofs.Common.{◌≡◌, ◌++◌, drop}
use Rattle.mdp_spec.specs.Row.{entries}
use Rattle.mdp_elim.specs.System.{inner}
use Rattle.mdp_elim.proofs.chain.inner_terms.Given as goal

abbrev pub invariant-loop-i : goal.invariant-loop-i
invariant-loop-i l = inner l.active (entries l.row.targets.now l.row.probs.now) ≡ l.terms.items ++ inner l.active (entries (drop l.i l.row.targets.now) (drop l.i l.row.probs.now))

use Rattle.std.proofs.Common.{◌≡◌, drop, length}
use Rattle.mdp_spec.specs.Row.{entries}
use Rattle.mdp_subsystem_rules.specs.Sums.{AreSums, with_row}
use Rattle.mdp_subsystem_rules.proofs.sums.Sums.add_row.Given as goal

-- what is left of the row, from the sums so far, gives what the row gives from the first ones
abbrev pub invariant-loop-i : goal.invariant-loop-i
invariant-loop-i l =
    (with_row l.goals l.amount l.initial.self (entries l.row.targets.now l.row.probs.now) ≡ with_row l.goals l.amount l.self (entries (drop l.i l.row.targets.now) (drop l.i l.row.probs.now)))
    × AreSums (length l.goals) l.self

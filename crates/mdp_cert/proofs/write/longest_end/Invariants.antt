use Rattle.std.proofs.Common.{◌≡◌, ◌+◌, ◌-◌, ◌<◌, ◌≤◌, drop}
use Rattle.mdp_cert.specs.Answer.{more_same}
use Rattle.mdp_cert.proofs.write.longest_end.Given as goal

abbrev pub invariant-loop-last : goal.invariant-loop-last
invariant-loop-last g l =
    (l.first ≤ l.last) × (l.last < l.states) × (l.first + more_same g.L.Item.Entry.columns (drop l.first (g.L.Lists.entries l.entries)) ≡ l.last + more_same
    g.L.Item.Entry.columns (drop l.last (g.L.Lists.entries l.entries)))

abbrev pub decreases-loop-last : goal.decreases-loop-last
decreases-loop-last g l = l.states - l.last

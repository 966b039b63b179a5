use Rattle.std.proofs.Common.{◌≡◌, ◌++◌, ◌≤◌, ◌-◌, drop}
use Rattle.mdp_cert.specs.{Runs.{runs_in}, Spelling.{run_lines, state_lines}}
use Rattle.mdp_text.specs.Answer.{Keeps}
use Rattle.mdp_cert.proofs.write.push_entries.Given as goal

abbrev pub invariant-loop-first : goal.invariant-loop-first
invariant-loop-first g l =
    (l.first ≤ l.states)
    × (l.out.items ++ run_lines g.L.Item.Entry.columns l.first (runs_in l.version g.L.Item.Entry.columns (drop l.first (g.L.Lists.entries l.entries))) ≡ l.initial.out.items
    ++ state_lines l.version g.L.Item.Entry.columns (g.L.Lists.entries l.entries))
    × Keeps l.initial.out.items l.out.items

abbrev pub decreases-loop-first : goal.decreases-loop-first
decreases-loop-first g l = l.states - l.first

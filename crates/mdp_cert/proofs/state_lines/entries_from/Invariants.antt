use Rattle.std.proofs.Common.{◌≡◌, ◌+◌, ◌-◌, ◌≤◌}
use Rattle.mdp_text.specs.Lines.{place}
use Rattle.mdp_cert.specs.Reading.{runs_from, entries_from}
use Rattle.mdp_cert.proofs.Steps.{onto}
use Rattle.mdp_cert.proofs.state_lines.entries_from.Given as goal

abbrev pub invariant-loop-due : goal.invariant-loop-due
invariant-loop-due g l =
    (l.due ≤ l.states)
    × (l.next ≤ l.line + l.due)
    × (onto l.version g.E.Entry.columns l.states l.entries.items (runs_from (l.states - l.due) l.version g.E.Entry.columns l.states l.due l.before (place l.next l.rest)) ≡
    entries_from l.version g.E.Entry.columns l.states (place l.line l.bytes))

abbrev pub decreases-loop-due : goal.decreases-loop-due
decreases-loop-due g l = l.states - l.due

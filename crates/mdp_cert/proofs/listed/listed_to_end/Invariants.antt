use Rattle.std.proofs.Common.{◌≡◌, suc, ◌+◌, ◌≤◌, length}
use Rattle.mdp_text.specs.Lines.{place}
use Rattle.mdp_cert.specs.Reading.{listed_from, listed_to_end}
use Rattle.mdp_cert.proofs.OneByOne.{onto}
use Rattle.mdp_cert.proofs.listed.listed_to_end.Given as goal

abbrev pub invariant-loop-lines : goal.invariant-loop-lines
invariant-loop-lines g l =
    (l.next + length l.rest ≤ l.line + length l.bytes)
    × (onto g.L.Line.listed l.states l.lines.items (listed_from (suc (length l.rest)) g.L.Line.listed l.states l.before (place l.next l.rest)) ≡ listed_to_end
    g.L.Line.listed l.states (place l.line l.bytes))

abbrev pub decreases-loop-lines : goal.decreases-loop-lines
decreases-loop-lines g l = length l.rest

use Rattle.std.proofs.Common.{◌≡◌, ◌++◌, drop}
use Rattle.mdp_text.specs.Answer.{Keeps}
use Rattle.mdp_cert.specs.Spelling.{listed_lines}
use Rattle.mdp_cert.proofs.listed.push_listed.Given as goal

abbrev pub invariant-loop-place : goal.invariant-loop-place
invariant-loop-place g l =
    (l.out.items ++ listed_lines g.L.Item.Line.listed (drop l.place (g.L.Lines.lines l.lines)) ≡ l.initial.out.items ++ listed_lines g.L.Item.Line.listed (g.L.Lines.lines l.lines))
    × Keeps l.initial.out.items l.out.items

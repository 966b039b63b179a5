use Rattle.mdp_quot.specs.Numbering.{IsNumbering}
use Rattle.mdp_quot.proofs.numbering.Numbering.of.Given as goal

abbrev pub invariant-loop-s : goal.invariant-loop-s
invariant-loop-s l = IsNumbering l.ends.parts l.s l.numbering.nodes.items l.numbering.components.items l.numbering.first.items

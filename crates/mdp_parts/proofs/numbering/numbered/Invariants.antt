use Rattle.mdp_parts.proofs.Renumbering.{IsRenumbering}
use Rattle.mdp_parts.proofs.numbering.numbered.Given as goal

abbrev pub invariant-loop-key : goal.invariant-loop-key
invariant-loop-key l = IsRenumbering l.keys l.limit l.key-index l.given.items l.numbers.items l.count

use Rattle.mdp_parts.specs.Losing.{AreLosing}
use Rattle.mdp_parts.proofs.losing.Losing.of.Given as goal

abbrev pub invariant-loop-s : goal.invariant-loop-s
invariant-loop-s l = AreLosing l.model l.allowed l.losing.first.items l.losing.lost.items l.losing.seeds.items
